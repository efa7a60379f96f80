-- Which texts are read as lines of bookmarks.
use Rattle.std.proofs.Common.{◌≡◌, ◌⊎◌, ℕ, ◌+◌, ◌<◌, Bool, true, false, cond, List, [], ◌∷◌, ◌++◌, length, take, drop, Option, Some, None, Result, Ok, Err, refl, sym, ◌∙◌, ap, subst, inl, inr, append_assoc, append-nil, length-append, arith}
use Rattle.std.specs.Prelude.{◌==◌, if◌then◌else◌}
use Rattle.std.specs.List.{AllByRecursion}
use Rattle.std.specs.Option.{option_map}
use Rattle.std.proofs.lemmas.List.{take-append-drop, drop-drop}
use Rattle.hgs_bytes.specs.Bytes.{begins_with}
use Rattle.hgs_bytes.specs.Text.{Line as TextLine, Lacks, lines_of, onto, split}
use Rattle.hgs_bytes.specs.Theorems.ByteLemmas.{same-eq}
use Rattle.hgs_bytes.specs.Theorems.TextLemmas.{lines_split, lines_last_of, split_over, unlines, unlines-lines_of}
use Rattle.hgs_index.specs.Hex.{hex, node_at}
use Rattle.hgs_index.specs.MarkName.{is_mark_name}
use Rattle.hgs_index.specs.Theorems.HexText.{hex_length, node_found}
use Rattle.hgs_marks.specs.declared.fault.MarkFault.{MarkFault}
use Rattle.hgs_marks.specs.declared.fault.MarkFault.TheVariants.{Line, Name}
use Rattle.hgs_marks.specs.Bookmarks.{Mark, bookmarks_text, mark_with, mark_of, mark_then, marks_from, mark_lines, all_with, read_bookmarks, with_marks}
use Rattle.hgs_marks.specs.Texts.{IsMark}
use Rattle.hgs_marks.specs.MarkTexts.{AreLinesOf, IsTextOf}
use Rattle.hgs_marks.specs.Theorems.MarkText.{item, item_lacks, mark_back, mark_found, marks_back}

-- ---- lines are read again

lacks-split : (byte : ℕ) (xs : List ℕ) → Lacks byte xs → split byte xs ≡ None
lacks-split byte [] h = refl
lacks-split byte (x ∷ xs) h =
    ap (λ b. if b then Some ([], xs) else option_map (λ y. (x ∷ y.0, y.1)) (split byte xs)) h.0 ∙ ap (option_map (λ y. (x ∷ y.0, y.1))) (lacks-split byte xs h.1)

-- the text without its last LF
unended : Mark → List Mark → List ℕ
unended m [] = item m
unended m (s ∷ marks) = item m ++ 10 ∷ unended s marks

unended-is : (m : Mark) (marks : List Mark) → bookmarks_text (m ∷ marks) ≡ unended m marks ++ 10 ∷ []
unfolding unended
unended-is m [] = append-nil (item m ++ 10 ∷ [])
unended-is m (s ∷ marks) = append_assoc (item m) (10 ∷ []) (bookmarks_text (s ∷ marks)) ∙ ap (λ t. item m ++ 10 ∷ t) (unended-is s marks) ∙ sym (append_assoc (item m) (10 ∷ unended s marks) (10 ∷ []))

some_bytes : (m : Mark) → IsMark m → 0 < length (item m)
some_bytes m h = let forty = hex_length m.node h.node.size in let all = length-append (hex m.node) (32 ∷ m.name) in omega (arith, forty, all)

unended-back : (n : ℕ) (m : Mark) (marks : List Mark) → AllByRecursion IsMark (m ∷ marks) → marks_from n (lines_of (unended m marks)) ≡ Ok (m ∷ marks)
unfolding unended
unended-back n m [] h =
    ap (marks_from n) (lines_last_of (item m) (some_bytes m h.0) (lacks-split 10 (item m) (item_lacks m h.0))) ∙ ap (λ r. mark_then r (Ok [])) (mark_back (n + 1) m h.0)
unended-back n m (s ∷ marks) h =
    ap (marks_from n) (lines_split (item m ++ 10 ∷ unended s marks) (item m, unended s marks) (split_over 10 (item m) (unended s marks) (item_lacks m h.0)))
    ∙ ap (λ r. mark_then r (marks_from (n + 1) (lines_of (unended s marks)))) (mark_back (n + 1) m h.0)
    ∙ ap (mark_then (Ok m)) (unended-back (n + 1) s marks h.1)

cons_is : (x y : ℕ) (xs ys : List ℕ) → (let a : List ℕ = x ∷ xs in a) ≡ y ∷ ys → (x ≡ y) × (xs ≡ ys)
cons_is x y xs ys e = (cc, cc)

no_end : {A : Type 0} (xs : List ℕ) (b : ℕ) → [] ≡ xs ++ b ∷ [] → A
no_end [] b e = cc
no_end (x ∷ xs) b e = cc

same_front : (xs ys : List ℕ) (b : ℕ) → xs ++ b ∷ [] ≡ ys ++ b ∷ [] → xs ≡ ys
same_front [] [] b e = refl
same_front [] (y ∷ ys) b e = no_end ys b (cons_is b y [] (ys ++ b ∷ []) e).1
same_front (x ∷ xs) [] b e = no_end xs b (sym (cons_is x b (xs ++ b ∷ []) [] e).1)
same_front (x ∷ xs) (y ∷ ys) b e =
    let both = cons_is x y (xs ++ b ∷ []) (ys ++ b ∷ []) e in
    ap (λ z. z ∷ xs) both.0 ∙ ap (λ zs. y ∷ zs) (same_front xs ys b both.1)

lines-back : (marks : List Mark) (text : List ℕ) → AllByRecursion IsMark marks → (text ≡ bookmarks_text marks) ⊎ (bookmarks_text marks ≡ text ++ 10 ∷ []) → mark_lines text ≡ Ok marks
lines-back marks text h (inl e) = ap mark_lines e ∙ marks_back 0 marks h
lines-back [] text h (inr e) = no_end text 10 e
lines-back (m ∷ marks) text h (inr e) = ap mark_lines (sym (same_front (unended m marks) text 10 (sym (unended-is m marks) ∙ e))) ∙ unended-back 0 m marks h

-- ---- a text that is read has such lines

-- a line that is read as a bookmark is that bookmark's
spelled-name : (n : ℕ) (node name : List ℕ) (m : Mark) (t : Bool) → cond t (Ok (record { name = name; node = node })) (Err (Name n)) ≡ Ok m → (m.node ≡ node) × (m.name ≡ name)
spelled-name n node name m true e = let is : ◌≡◌ {A = Mark} (record { name = name; node = node }) m = cc in (ap (λ (x : Mark). x.node) (sym is), ap (λ (x : Mark). x.name) (sym is))
spelled-name n node name m false e = cc

spelled-with : (n : ℕ) (o : Option (List ℕ)) (digits name : List ℕ) (m : Mark) → node_at digits ≡ o → mark_with n o name ≡ Ok m → (hex m.node ≡ digits) × (m.name ≡ name)
spelled-with n None digits name m s e = cc
spelled-with n (Some node) digits name m s e =
    let parts = spelled-name n node name m (is_mark_name name) e in
    (ap hex parts.0 ∙ sym (node_found digits node s).text, parts.1)

spelled-so : (n : ℕ) (text : List ℕ) (m : Mark) (t : Bool) → begins_with (drop 40 text) (32 ∷ []) ≡ t → cond t (mark_with n (node_at (take 40 text)) (drop 41 text)) (Err (Line n)) ≡ Ok m → text ≡ item m
spelled-so n text m true b e =
    let parts = spelled-with n (node_at (take 40 text)) (take 40 text) (drop 41 text) m refl e in
    let space : take 1 (drop 40 text) ≡ 32 ∷ [] = sym (same-eq (32 ∷ []) (take 1 (drop 40 text)) b) in
    sym (take-append-drop 40 text)
    ∙ ap (λ t. take 40 text ++ t) (sym (take-append-drop 1 (drop 40 text)) ∙ ap (λ s. s ++ drop 1 (drop 40 text)) space ∙ ap (λ t. 32 ∷ t) (drop-drop 1 40 text ∙ sym parts.1))
    ∙ ap (λ d. d ++ 32 ∷ m.name) (sym parts.0)
spelled-so n text m false b e = cc

spelled : (n : ℕ) (text : List ℕ) (m : Mark) → mark_of n text ≡ Ok m → text ≡ item m
spelled n text m e = spelled-so n text m (begins_with (drop 40 text) (32 ∷ [])) refl e

-- each line but the last has its LF
abbrev OnlyLastLacks : List TextLine → Type 0
OnlyLastLacks [] = Unit {0}
OnlyLastLacks (p ∷ []) = Unit {0}
OnlyLastLacks (p ∷ q ∷ ps) = (p.1 ≡ true) × OnlyLastLacks (q ∷ ps)

onto-last : (b : ℕ) (ps : List TextLine) → OnlyLastLacks ps → OnlyLastLacks (onto b ps)
onto-last b [] h = tt
onto-last b (p ∷ []) h = tt
onto-last b (p ∷ q ∷ ps) h = h

ended-last : (ps : List TextLine) → OnlyLastLacks ps → OnlyLastLacks (([], true) ∷ ps)
ended-last [] h = tt
ended-last (p ∷ ps) h = (refl, h)

lines-last : (xs : List ℕ) → OnlyLastLacks (lines_of xs)
lines-last [] = tt
lines-last (b ∷ bytes) = by (b == 10) (lines-last bytes)
  where
    by : (t : Bool) → OnlyLastLacks (lines_of bytes) → OnlyLastLacks (if t then ([], true) ∷ lines_of bytes else onto b (lines_of bytes))
    by true h = ended-last (lines_of bytes) h
    by false h = onto-last b (lines_of bytes) h

ok_is : (x y : List Mark) → (let a : Result (List Mark) MarkFault = Ok x in a) ≡ Ok y → x ≡ y
ok_is x y e = cc

rest-of : (l : TextLine) (ls : List TextLine) → OnlyLastLacks (l ∷ ls) → OnlyLastLacks ls
rest-of l [] h = tt
rest-of l (q ∷ ls) h = h.1

-- a line and its bookmark before what is read
one-line : (l : TextLine) (ls : List TextLine) (m : Mark) (marks : List Mark) → OnlyLastLacks (l ∷ ls) → l.0 ≡ item m → IsMark m → ((ls ≡ []) → marks ≡ []) → AllByRecursion IsMark marks
    → (unlines ls ≡ bookmarks_text marks) ⊎ (bookmarks_text marks ≡ unlines ls ++ 10 ∷ []) → AreLinesOf (m ∷ marks) (unlines (l ∷ ls))
unfolding unlines
one-line (text, true) ls m marks last is mark none have (inl e) =
    record { each = (mark, have); text_is = inl (ap (λ t. text ++ 10 ∷ t) e ∙ ap (λ t. t ++ 10 ∷ bookmarks_text marks) is ∙ sym (append_assoc (item m) (10 ∷ []) (bookmarks_text marks))) }
one-line (text, true) ls m marks last is mark none have (inr e) =
    record { each = (mark, have); text_is = inr (append_assoc (item m) (10 ∷ []) (bookmarks_text marks) ∙ ap (λ t. item m ++ 10 ∷ t) e ∙ ap (λ t. t ++ 10 ∷ (unlines ls ++ 10 ∷ [])) (sym is) ∙ sym (append_assoc text (10 ∷ unlines ls) (10 ∷ []))) }
one-line (text, false) [] m marks last is mark none have e =
    record { each = (mark, have); text_is = inr (ap (λ x. (item m ++ 10 ∷ []) ++ bookmarks_text x) (none refl) ∙ append-nil (item m ++ 10 ∷ []) ∙ ap (λ t. t ++ 10 ∷ []) (sym is ∙ sym (append-nil text))) }
one-line (text, false) (q ∷ ls) m marks last is mark none have e = no_flag last.0
  where
    no_flag : {A : Type 0} → false ≡ true → A
    no_flag k = cc

lines-found : (n : ℕ) (ls : List TextLine) (marks : List Mark) → OnlyLastLacks ls → marks_from n ls ≡ Ok marks → AreLinesOf marks (unlines ls)
unfolding unlines
lines-found n [] marks last e = subst (λ l. AreLinesOf l []) (ok_is [] marks e) (record { each = tt; text_is = inl refl })
lines-found n (l ∷ ls) marks last e = by (λ more k. lines-found (n + 1) ls more (rest-of l ls last) k) (mark_of (n + 1) l.0) (marks_from (n + 1) ls) refl refl e
  where
    none-of : (more : List Mark) → marks_from (n + 1) ls ≡ Ok more → (ls ≡ []) → more ≡ []
    none-of more k is = ok_is more [] (sym k ∙ ap (marks_from (n + 1)) is)

    by : ((more : List Mark) → marks_from (n + 1) ls ≡ Ok more → AreLinesOf more (unlines ls)) → (r : Result Mark MarkFault) (x : Result (List Mark) MarkFault) → mark_of (n + 1) l.0 ≡ r → marks_from (n + 1) ls ≡ x → mark_then r x ≡ Ok marks → AreLinesOf marks (unlines (l ∷ ls))
    by found (Err f) x here behind k = cc
    by found (Ok m) (Err f) here behind k = cc
    by found (Ok m) (Ok more) here behind k =
        let rest = found more behind in
        subst (λ all. AreLinesOf all (unlines (l ∷ ls))) (ok_is (m ∷ more) marks k)
        (one-line l ls m more last (spelled (n + 1) l.0 m here) (mark_found (n + 1) l.0 m here) (none-of more behind) rest.each rest.text_is)

pub mark-lines : (marks : List Mark) (text : List ℕ) → (mark_lines text ≡ Ok marks → AreLinesOf marks text) × (AreLinesOf marks text → mark_lines text ≡ Ok marks)
mark-lines marks text = (
  λ e. subst (AreLinesOf marks) (unlines-lines_of text) (lines-found 0 (lines_of text) marks (lines-last text) e),
  λ h. lines-back marks text h.each h.text_is,
)

pub bookmark-texts : (marks : List Mark) (text : List ℕ) → (read_bookmarks text ≡ Ok marks → IsTextOf marks text) × (IsTextOf marks text → read_bookmarks text ≡ Ok marks)
bookmark-texts marks text = (
  λ e. by (mark_lines text) refl e,
  λ h. ap (all_with []) ((mark-lines h.written text).1 h.lines_are) ∙ ap (λ l. Ok l) h.left,
)
  where
    by : (r : Result (List Mark) MarkFault) → mark_lines text ≡ r → all_with [] r ≡ Ok marks → IsTextOf marks text
    by (Ok written) is e = record { written = written; lines_are = (mark-lines written text).0 is; left = ok_is (with_marks [] written) marks e }
    by (Err f) is e = cc
