-- Texts of journals, and the lines that are read of them.
use Rattle.std.proofs.Common.{◌≡◌, ℕ, ◌+◌, ◌<◌, ◌^◌, Bool, true, false, cond, List, [], ◌∷◌, ◌++◌, Option, Some, None, Result, Ok, Err, refl, sym, ◌∙◌, ap, subst, append_assoc, append-nil, decimal, inl, inr, ◌⊎◌}
use Rattle.std.specs.List.{AllByRecursion}
use Rattle.hgs_bytes.specs.Text.{Line as TextLine, Lacks, lines_of, split}
use Rattle.hgs_bytes.specs.Theorems.TextLemmas.{lacks-append, lines_last, lines_split, split_over, split_parts, unlines, unlines-lines_of, LinesLack, lines_lack}
use Rattle.hgs_files.specs.Path.{is_store_path}
use Rattle.hgs_journal.specs.declared.fault.JournalFault.{JournalFault}
use Rattle.hgs_journal.specs.declared.journal.JournalLine.{JournalLine}
use Rattle.hgs_journal.specs.Names.{in_store}
use Rattle.hgs_journal.specs.Texts.{journal_text, IsJournalLine, IsJournalText}
use Rattle.hgs_journal.specs.Read.{line_then, offset_of, named_line, line_of_parts, journal_line_of, journal_from, read_journal}
use Rattle.hgs_journal.specs.Theorems.LackLemmas.{name-lacks, decimal-lacks, split-lacks}
use Rattle.hgs_journal.specs.Theorems.LineLemmas.{OnlyLastLacks, lines-last, behind-last, none-behind}
use Rattle.hgs_journal.specs.Theorems.OffsetLemmas.{offset-back, offset-digits}

-- a line without its LF
abbrev pub item : JournalLine → List ℕ
item l = l.name ++ 0 ∷ decimal l.offset

-- ---- a text is read as the lines that it was written of

item-lacks : (l : JournalLine) → IsJournalLine l → Lacks 10 (item l)
item-lacks l g = lacks-append 10 l.name (0 ∷ decimal l.offset) (name-lacks false l.name g.path).1 (refl, decimal-lacks l.offset g.offset)

item-back : (l : JournalLine) → IsJournalLine l → journal_line_of (item l) ≡ Some l
item-back l g =
    ap line_of_parts (split_over 0 l.name (decimal l.offset) (name-lacks false l.name g.path).0)
    ∙ ap (named_line l.name) (offset-back l.offset g.offset)
    ∙ ap (λ b. cond b (Some l) None) g.path

cut-back : (n : ℕ) (cut : List ℕ) → Lacks 10 cut → journal_from n (lines_of cut) ≡ Ok []
cut-back n [] h = refl
cut-back n (b ∷ cut) h = ap (journal_from n) (lines_last b cut (split-lacks 10 (b ∷ cut) h))

pub lines-back : (n : ℕ) (lines : List JournalLine) (cut : List ℕ) → AllByRecursion IsJournalLine lines → Lacks 10 cut → journal_from n (lines_of (journal_text lines ++ cut)) ≡ Ok lines
lines-back n [] cut g h = cut-back n cut h
lines-back n (l ∷ ls) cut g h =
    let rest = journal_text ls ++ cut in
    ap (λ t. journal_from n (lines_of t)) (append_assoc (item l ++ 10 ∷ []) (journal_text ls) cut ∙ append_assoc (item l) (10 ∷ []) rest)
    ∙ ap (journal_from n) (lines_split (item l ++ 10 ∷ rest) (item l, rest) (split_over 10 (item l) rest (item-lacks l g.0)))
    ∙ ap (λ o. line_then (n + 1) o (journal_from (n + 1) (lines_of rest))) (item-back l g.0)
    ∙ ap (line_then (n + 1) (Some l)) (lines-back (n + 1) ls cut g.1 h)

-- ---- a text that is read was written so

pub record IsItem (text : List ℕ) (l : JournalLine) : Type 0 where
  pub spelled : text ≡ item l
  pub good : IsJournalLine l

if-item : (b : Bool) (name digits : List ℕ) (offset : ℕ) (l : JournalLine) → is_store_path (in_store name) ≡ b → (digits ≡ decimal offset) × (offset < 2 ^ 64)
    → cond b (Some (record { name = name; offset = offset })) None ≡ Some l → IsItem (name ++ 0 ∷ digits) l
if-item true name digits offset l path d h = subst (IsItem (name ++ 0 ∷ digits)) (some_is _ l h) (record { spelled = ap (λ ds. name ++ 0 ∷ ds) d.0; good = record { path = path; offset = d.1 } })
  where
    some_is : (x y : JournalLine) → Some x ≡ Some y → x ≡ y
    some_is x y e = cc
if-item false name digits offset l path d h = cc

named-found : (name digits : List ℕ) (o : Option ℕ) (l : JournalLine) → offset_of digits ≡ o → named_line name o ≡ Some l → IsItem (name ++ 0 ∷ digits) l
named-found name digits None l e h = cc
named-found name digits (Some offset) l e h = if-item (is_store_path (in_store name)) name digits offset l refl (offset-digits digits offset e) h

parts-found : (text : List ℕ) (o : Option (List ℕ × List ℕ)) (l : JournalLine) → split 0 text ≡ o → line_of_parts o ≡ Some l → IsItem text l
parts-found text None l e h = cc
parts-found text (Some p) l e h = subst (λ t. IsItem t l) (sym (split_parts 0 text p e).0) (named-found p.0 p.1 (offset_of p.1) l refl h)

ok_is : (x y : List JournalLine) → (let a : Result (List JournalLine) JournalFault = Ok x in a) ≡ Ok y → x ≡ y
ok_is x y e = cc

one-more : (l : JournalLine) (text : List ℕ) (ls : List TextLine) (lines : List JournalLine) → IsItem text l → IsJournalText (unlines ls) lines → IsJournalText (unlines ((text, true) ∷ ls)) (l ∷ lines)
unfolding unlines
one-more l text ls lines is behind = record {
  each = (is.good, behind.each);
  cut = behind.cut;
  no_lf = behind.no_lf;
  spelled =
      ap (λ t. t ++ 10 ∷ unlines ls) is.spelled ∙ ap (λ t. item l ++ 10 ∷ t) behind.spelled
      ∙ sym (append_assoc (item l) (10 ∷ []) (journal_text lines ++ behind.cut)) ∙ sym (append_assoc (item l ++ 10 ∷ []) (journal_text lines) behind.cut);
}

cut-last : (text : List ℕ) (ls : List TextLine) → ls ≡ [] → Lacks 10 text → IsJournalText (unlines ((text, false) ∷ ls)) []
unfolding unlines
cut-last text ls none h = record { each = tt; cut = text; no_lf = h; spelled = ap (λ x. text ++ unlines x) none ∙ append-nil text }

none-left : IsJournalText (unlines []) []
unfolding unlines
none-left = record { each = tt; cut = []; no_lf = tt; spelled = refl }

then-found : (n : ℕ) (text : List ℕ) (ls : List TextLine) (lines : List JournalLine) (o : Option JournalLine) (x : Result (List JournalLine) JournalFault) → journal_line_of text ≡ o → line_then n o x ≡ Ok lines
    → ((more : List JournalLine) → x ≡ Ok more → IsJournalText (unlines ls) more) → IsJournalText (unlines ((text, true) ∷ ls)) lines
then-found n text ls lines None x e h behind = cc
then-found n text ls lines (Some l) (Err f) e h behind = cc
then-found n text ls lines (Some l) (Ok more) e h behind =
    subst (IsJournalText (unlines ((text, true) ∷ ls))) (ok_is (l ∷ more) lines h) (one-more l text ls more (parts-found text (split 0 text) l refl e) (behind more refl))

lines-found : (n : ℕ) (ls : List TextLine) (lines : List JournalLine) → OnlyLastLacks ls → LinesLack ls → journal_from n ls ≡ Ok lines → IsJournalText (unlines ls) lines
lines-found n [] lines last lack h = subst (IsJournalText (unlines [])) (ok_is [] lines h) none-left
lines-found n ((text, true) ∷ ls) lines last lack h =
    then-found (n + 1) text ls lines (journal_line_of text) (journal_from (n + 1) ls) refl h (λ more e. lines-found (n + 1) ls more (behind-last (text, true) ls last) lack.1 e)
lines-found n ((text, false) ∷ ls) lines last lack h = subst (IsJournalText (unlines ((text, false) ∷ ls))) (ok_is [] lines h) (cut-last text ls (none-behind text ls last) lack.0)

pub journal-found : (text : List ℕ) (lines : List JournalLine) → read_journal text ≡ Ok lines → IsJournalText text lines
journal-found text lines h = subst (λ t. IsJournalText t lines) (unlines-lines_of text) (lines-found 0 (lines_of text) lines (lines-last text) (lines_lack text) h)

pub journal-back : (text : List ℕ) (lines : List JournalLine) → IsJournalText text lines → read_journal text ≡ Ok lines
journal-back text lines t = ap read_journal t.spelled ∙ lines-back 0 lines t.cut t.each t.no_lf

pub written-back : (lines : List JournalLine) → AllByRecursion IsJournalLine lines → read_journal (journal_text lines) ≡ Ok lines
written-back lines each = ap read_journal (sym (append-nil (journal_text lines))) ∙ lines-back 0 lines [] each tt

-- ---- a front of a text has a front of its lines

lacks-front : (xs ys : List ℕ) → Lacks 10 (xs ++ ys) → Lacks 10 xs
lacks-front [] ys h = tt
lacks-front (x ∷ xs) ys h = (h.0, lacks-front xs ys h.1)

-- two ways to cut the same bytes: the one front begins with the other
abbrev Cuts : List ℕ → List ℕ → List ℕ → List ℕ → Type 0
Cuts xs ys front back = ((r : List ℕ) × (xs ≡ front ++ r)) ⊎ ((r : List ℕ) × (front ≡ xs ++ r) × (ys ≡ r ++ back))

cons_is : (x y : ℕ) (xs ys : List ℕ) → (let a : List ℕ = x ∷ xs in a) ≡ y ∷ ys → (x ≡ y) × (xs ≡ ys)
cons_is x y xs ys e = (cc, cc)

cuts : (xs ys front back : List ℕ) → xs ++ ys ≡ front ++ back → Cuts xs ys front back
cuts [] ys front back e = inr (front, refl, e)
cuts (x ∷ xs) ys [] back e = inl (x ∷ xs, refl)
cuts (x ∷ xs) ys (f ∷ front) back e =
    let both = cons_is x f (xs ++ ys) (front ++ back) e in
    elim (cuts xs ys front back both.1) [
      | inl h ↦ inl (h.0, ap (λ y. y ∷ xs) both.0 ∙ ap (λ l. f ∷ l) h.1)
      | inr h ↦ inr (h.0, ap (λ y. y ∷ front) (sym both.0) ∙ ap (λ l. x ∷ l) h.1, h.2)
    ]

-- some first lines, of which a text has just these
abbrev HasFirst : List JournalLine → List ℕ → Type 0
HasFirst lines front = (first : List JournalLine) × (more : List JournalLine) × (lines ≡ first ++ more) × IsJournalText front first

none-first : (lines : List JournalLine) (front : List ℕ) → Lacks 10 front → HasFirst lines front
none-first lines front h = ([], lines, refl, record { each = tt; cut = front; no_lf = h; spelled = refl })

line-first : (l : JournalLine) (ls : List JournalLine) (r front : List ℕ) → IsJournalLine l → front ≡ item l ++ 10 ∷ r → HasFirst ls r → HasFirst (l ∷ ls) front
line-first l ls r front g e h = (
  l ∷ h.0,
  h.1,
  ap (λ x. l ∷ x) h.2,
  record {
    each = (g, h.3.each);
    cut = h.3.cut;
    no_lf = h.3.no_lf;
    spelled = e ∙ ap (λ t. item l ++ 10 ∷ t) h.3.spelled ∙ sym (append_assoc (item l) (10 ∷ []) (journal_text h.0 ++ h.3.cut)) ∙ sym (append_assoc (item l ++ 10 ∷ []) (journal_text h.0) h.3.cut);
  },
)

empty-front : (front back : List ℕ) → [] ≡ front ++ back → front ≡ []
empty-front [] back e = refl
empty-front (f ∷ front) back e = cc

pub first-lines : (lines : List JournalLine) (front back : List ℕ) → AllByRecursion IsJournalLine lines → journal_text lines ≡ front ++ back → HasFirst lines front
first-lines [] front back each e = none-first [] front (subst (Lacks 10) (sym (empty-front front back e)) tt)
first-lines (l ∷ ls) front back each e =
    elim (cuts (item l) (10 ∷ journal_text ls) front back (sym (append_assoc (item l) (10 ∷ []) (journal_text ls)) ∙ e)) [
      | inl h ↦ none-first (l ∷ ls) front (lacks-front front h.0 (subst (Lacks 10) h.1 (item-lacks l each.0)))
      | inr h ↦ behind h.0 h.1 h.2 (λ r s. first-lines ls r back each.1 s)
    ]
  where
    behind : (r : List ℕ) → front ≡ item l ++ r → 10 ∷ journal_text ls ≡ r ++ back → ((s : List ℕ) → journal_text ls ≡ s ++ back → HasFirst ls s) → HasFirst (l ∷ ls) front
    behind [] f g more = none-first (l ∷ ls) front (subst (Lacks 10) (sym (f ∙ append-nil (item l))) (item-lacks l each.0))
    behind (x ∷ r) f g more =
        let both = cons_is 10 x (journal_text ls) (r ++ back) g in
        line-first l ls r front each.0 (f ∙ ap (λ y. item l ++ y ∷ r) (sym both.0)) (more r both.1)
