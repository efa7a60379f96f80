-- A search through one filelog.
use Rattle.std.proofs.Common.{◌≡◌, ◌⊎◌, ◌<◌, ◌≤◌, ℕ, zero, suc, ◌+◌, Bool, true, false, List, [], ◌∷◌, ◌++◌, append_assoc, append-nil, length, Option, Some, None, refl, sym, ◌∙◌, ap, subst, inl, inr, arith}
use Rattle.std.specs.Prelude.{◌==◌, slice_get, option_to_list, IfSome}
use Rattle.std.proofs.lemmas.List.Concat.{flat_map-append}
use Rattle.hgs_index.specs.Ancestor.{IsAncestor, IsParent, itself, of_parent}
use Rattle.hgs_index.specs.Revision.{Parents, ParentsBefore}
use Rattle.hgs_index.specs.Theorems.AncestorLemmas.{IsAncestor-trans}
use Rattle.hgs_index.specs.declared.entry.Entry.{Entry}
use Rattle.hgs_revlog.specs.Loaded.{parents_in}
use Rattle.hgs_follow.specs.Asked.{told, Asked, Chain}
use Rattle.hgs_follow.specs.Search.{asked_of, bit, has, sources_in, sources_of, times, times_read, Adds, AreLines, Marks, Searched, Text}
use Rattle.hgs_follow.specs.Source.{copied_from}
use Rattle.hgs_follow.specs.declared.filelogs.Filelog.{Filelog}
use Rattle.hgs_follow.specs.declared.line.Line.{Line}
use Rattle.hgs_follow.specs.declared.search.Finds.{Finds}
use Rattle.hgs_follow.proofs.ChainLemmas.{chain_joined, chain_one}
use Rattle.hgs_follow.proofs.ListLemmas.{count_push, false_is, get_map, mark_low, number_same, same_number, none_is, some_is, true_or_false}

-- ---- marks

pub marks_both : (es : List Entry) (e : Entry) (rev : ℕ) (a b c : List Bool) (w x y : List ℕ) → slice_get es rev ≡ Some e → Marks (λ r. e.p1 ≡ Some r) a b w x → Marks (λ r. e.p2 ≡ Some r) b c x y →
    Marks (λ p. IsParent (parents_in es) p rev) a c w y
marks_both es e rev a b c w x y at m n = record {
  size = n.size ∙ m.size;
  kept = λ r h. n.kept r (m.kept r h);
  only = λ r h. elim (n.only r h) [
    | inl k ↦ elim (m.only r k) [ inl i ↦ inl i | inr p ↦ inr ((e.p1, e.p2), there, inl p) ]
    | inr p ↦ inr ((e.p1, e.p2), there, inr p)
  ];
  all = λ r p low. elim (parent_of r p) [
    | inl q ↦ n.kept r (m.all r q low)
    | inr q ↦ n.all r q (let s = m.size in omega (arith, s, low))
  ];
  once = λ r. let i = m.once r in let j = n.once r in omega (arith, i, j);
  falls = let i = m.falls in let j = n.falls in omega (arith, i, j);
}
  where
    there : slice_get (parents_in es) rev ≡ Some (e.p1, e.p2)
    there = get_map (λ x. (x.p1, x.p2)) es rev e at

    parent_of : (r : ℕ) → IsParent (parents_in es) r rev → (e.p1 ≡ Some r) ⊎ (e.p2 ≡ Some r)
    parent_of r p =
        let same = some_is p.0 (e.p1, e.p2) (sym p.1 ∙ there) in
        subst (λ (q : Parents). (q.0 ≡ Some r) ⊎ (q.1 ≡ Some r)) same p.2

-- ---- parents come before

parent_low : (history : List Parents) (n p b : ℕ) → ParentsBefore n history → IsParent history p b → p < n + b
parent_low [] n p b before (q, at, is) = absurd (none_is q at)
parent_low (x ∷ history) n p zero before (q, at, is) = elim is [
  | inl e ↦ low x.0 before.0 (ap (λ (z : Parents). z.0) (some_is x q at) ∙ e)
  | inr e ↦ low x.1 before.1 (ap (λ (z : Parents). z.1) (some_is x q at) ∙ e)
]
  where
    low : (o : Option ℕ) → IfSome o (λ a. a < n) → o ≡ Some p → p < n + 0
    low None h e = absurd (none_is p e)
    low (Some a) h e = let s = some_is a p e in omega (arith, h, s)
parent_low (x ∷ history) n p (suc b) before (q, at, is) =
    let deeper = parent_low history (suc n) p b before.2 (q, at, is) in omega (arith, deeper)

-- ---- a search that is under way

pub record Underway (entries : List Entry) (from : ℕ) (old new : List Bool) (waits : List ℕ) (texts : List Text) : Type 0 where
  pub size : length new ≡ length old
  pub kept : (r : ℕ) → has old r ≡ true → has new r ≡ true
  pub only : (r : ℕ) → has new r ≡ true → (has old r ≡ true) ⊎ IsAncestor (parents_in entries) r from
  pub first : from < length old → has new from ≡ true
  pub once : (r : ℕ) → times_read r texts + times r waits + bit (has old r) ≡ bit (has new r)
  pub parents : (r p : ℕ) → times r waits ≡ 0 → has old r ≡ false → has new r ≡ true → IsParent (parents_in entries) p r → has new p ≡ true

bit_both : (b : Bool) → 0 < bit b → b ≡ true
bit_both true h = refl
bit_both false h = absurd (omega (arith, h))

bit_one : (b : Bool) → bit b ≤ 1
bit_one true = omega arith
bit_one false = omega arith

bit_zero : (b : Bool) → b ≡ false → bit b ≡ 0
bit_zero b e = ap bit e

bit_true : (b : Bool) → b ≡ true → bit b ≡ 1
bit_true b e = ap bit e

pub begins : (entries : List Entry) (from : ℕ) (old new : List Bool) (waits : List ℕ) → Marks (λ r. Some from ≡ Some r) old new [] waits → Underway entries from old new waits []
begins entries from old new waits m = record {
  size = m.size;
  kept = m.kept;
  only = λ r h. elim (m.only r h) [
    | inl k ↦ inl k
    | inr e ↦ inr (subst (λ x. IsAncestor (parents_in entries) x from) (some_is from r e) itself)
  ];
  first = m.all from refl;
  once = λ r. let i = m.once r in omega (arith, i);
  parents = λ r p none no yes par.
      let i = m.once r in let z = bit_zero (has old r) no in let o = bit_true (has new r) yes in
      absurd (omega (arith, i, none, z, o));
}

-- what is taken from the list has a mark, and had none
pub waits_marked : (entries : List Entry) (from : ℕ) (old new : List Bool) (waits left : List ℕ) (texts : List Text) (rev : ℕ) → Underway entries from old new waits texts → waits ≡ left ++ rev ∷ [] → (has new rev ≡ true) × (has old rev ≡ false)
waits_marked entries from old new waits left texts rev u is = (
  bit_both (has new rev) some,
  elim (true_or_false (has old rev)) [
    | inl e ↦ absurd (let t = bit_true (has old rev) e in let l = bit_one (has new rev) in omega (arith, count, o, t, l))
    | inr e ↦ e
  ],
)
  where
    o : times_read rev texts + times rev waits + bit (has old rev) ≡ bit (has new rev)
    o = u.once rev

    count : times rev waits ≡ times rev left + 1
    count = ap (times rev) is ∙ count_push (λ r. r == rev) left rev ∙ ap (λ b. times rev left + bit b) (same_number rev)

    some : 0 < bit (has new rev)
    some = omega (arith, count, o)

pub goes_on : (entries : List Entry) (from : ℕ) (old new more : List Bool) (waits left waiting : List ℕ) (texts : List Text) (t : Text) → ParentsBefore 0 (parents_in entries) → length old ≡ length entries → Underway entries from old new waits texts → waits ≡ left ++ t.rev ∷ [] → Marks (λ p. IsParent (parents_in entries) p t.rev) new more left waiting →
    Underway entries from old more waiting (texts ++ t ∷ [])
goes_on entries from old new more waits left waiting texts t before size u is m = record {
  size = m.size ∙ u.size;
  kept = λ r h. m.kept r (u.kept r h);
  only = λ r h. elim (m.only r h) [
    | inl k ↦ u.only r k
    | inr p ↦ elim (u.only t.rev marked.0) [
      | inl k ↦ false_is (sym marked.1 ∙ k)
      | inr a ↦ inr (IsAncestor-trans (parents_in entries) r t.rev from (of_parent p itself) a)
    ]
  ];
  first = λ low. m.kept from (u.first low);
  once = λ r. let i = u.once r in let j = m.once r in let k = was r in let l = count_push (λ x. x.rev == r) texts t in omega (arith, i, j, k, l);
  parents = λ r p none no yes par. elim (true_or_false (t.rev == r)) [
    | inl e ↦ m.all p (subst (λ x. IsParent (parents_in entries) p x) (sym (number_same t.rev r e)) par)
        (let low = parent_low (parents_in entries) 0 p r before par in let l = mark_low more r yes in let s = m.size in omega (arith, low, l, s))
    | inr e ↦ (let j = m.once r in let k = was r in let o = bit_true (has more r) yes in let l = bit_one (has new r) in let z = ap bit e in
        m.kept p (u.parents r p (omega (arith, j, k, o, none, l, z)) no (bit_both (has new r) (omega (arith, j, none, o, l))) par))
  ];
}
  where
    marked : (has new t.rev ≡ true) × (has old t.rev ≡ false)
    marked = waits_marked entries from old new waits left texts t.rev u is

    was : (r : ℕ) → times r waits ≡ times r left + bit (t.rev == r)
    was r = ap (times r) is ∙ count_push (λ x. x == r) left t.rev

pub ended : (entries : List Entry) (from : ℕ) (old new : List Bool) (texts : List Text) → Underway entries from old new [] texts → Searched entries from old new texts
ended entries from old new texts u = record {
  size = u.size;
  kept = u.kept;
  only = u.only;
  first = u.first;
  once = λ r. let i = u.once r in omega (arith, i);
  parents = λ r p no yes par. u.parents r p refl no yes par;
}

-- ---- what is found

asked_more : (path : List ℕ) (texts : List Text) (t : Text) → asked_of path (texts ++ t ∷ []) ≡ asked_of path texts ++ asked_of path (t ∷ [])
asked_more path [] t = refl
asked_more path (x ∷ texts) t = ap (λ l. told path x.rev x.text ∷ l) (asked_more path texts t)

lines_more : (path : List ℕ) (es : List Entry) (xs ys : List Text) (a b : List Line) → AreLines path es xs a → AreLines path es ys b → AreLines path es (xs ++ ys) (a ++ b)
lines_more path es [] ys a b h k = subst (λ (l : List Line). AreLines path es ys (l ++ b)) (sym h) k
lines_more path es (x ∷ xs) ys a b h k = (h.0, h.1 ++ b, h.2, ap (λ l. l ++ b) h.3, lines_more path es xs ys h.1 b h.4 k)

pub adds_none : (path : List ℕ) (es : List Entry) (a : Finds) → Adds path es [] a a
adds_none path es a = record {
  lines = [];
  are = refl;
  lines_are = sym (append-nil a.lines.items);
  sources_are = sym (append-nil (sources_of a.sources.items));
}

pub adds_more : (path : List ℕ) (es : List Entry) (xs ys : List Text) (a b c : Finds) → Adds path es xs a b → Adds path es ys b c → Adds path es (xs ++ ys) a c
adds_more path es xs ys a b c h k = record {
  lines = h.lines ++ k.lines;
  are = lines_more path es xs ys h.lines k.lines h.are k.are;
  lines_are = k.lines_are ∙ ap (λ l. l ++ k.lines) h.lines_are ∙ append_assoc a.lines.items h.lines k.lines;
  sources_are = k.sources_are ∙ ap (λ l. l ++ sources_in ys) h.sources_are ∙ append_assoc (sources_of a.sources.items) (sources_in xs) (sources_in ys)
      ∙ ap (λ l. sources_of a.sources.items ++ l) (sym (flat_map-append (λ t. option_to_list (copied_from t.text)) xs ys));
}

-- one more step of the loop: all that it keeps
pub record Keeps {S : Type 0} (gives : S → Asked → S → Type 0) (path : List ℕ) (entries : List Entry) (from : ℕ) (a b : S) (old new : List Bool) (waits : List ℕ) (was is : Finds) : Type 0 where
  pub texts : List Text
  pub chain : Chain gives a (asked_of path texts) b
  pub underway : Underway entries from old new waits texts
  pub adds : Adds path entries texts was is

pub keeps_first : {S : Type 0} (gives : S → Asked → S → Type 0) (path : List ℕ) (entries : List Entry) (from : ℕ) (a : S) (old new : List Bool) (none waits : List ℕ) (was : Finds) → none ≡ [] → Marks (λ r. Some from ≡ Some r) old new none waits → Keeps gives path entries from a a old new waits was was
keeps_first gives path entries from a old new none waits was empty m = record {
  texts = [];
  chain = refl;
  underway = begins entries from old new waits (subst (λ l. Marks (λ r. Some from ≡ Some r) old new l waits) empty m);
  adds = adds_none path entries was;
}

pub keeps_next : {S : Type 0} (gives : S → Asked → S → Type 0) (path : List ℕ) (entries : List Entry) (from : ℕ) (a b c : S) (old new more : List Bool) (waits left waiting : List ℕ) (was is now : Finds) (rev : ℕ) → ParentsBefore 0 (parents_in entries) → length old ≡ length entries →
    Keeps gives path entries from a b old new waits was is → waits ≡ left ++ rev ∷ [] → Marks (λ p. IsParent (parents_in entries) p rev) new more left waiting →
    ((text : List ℕ) × gives b (told path rev text) c × Adds path entries (record { rev = rev; text = text } ∷ []) is now) → Keeps gives path entries from a c old more waiting was now
keeps_next gives path entries from a b c old new more waits left waiting was is now rev before size k taken m (text, gave, adds) = record {
  texts = k.texts ++ record { rev = rev; text = text } ∷ [];
  chain = subst (λ l. Chain gives a l c) (sym (asked_more path k.texts (record { rev = rev; text = text })))
      (chain_joined gives a b c (asked_of path k.texts) (told path rev text ∷ []) k.chain (chain_one gives b (told path rev text) c gave));
  underway = goes_on entries from old new more waits left waiting k.texts (record { rev = rev; text = text }) before size k.underway taken m;
  adds = adds_more path entries k.texts (record { rev = rev; text = text } ∷ []) was is now k.adds adds;
}

pub keeps_low : {S : Type 0} (gives : S → Asked → S → Type 0) (path : List ℕ) (entries : List Entry) (from : ℕ) (a b : S) (old new : List Bool) (waits left : List ℕ) (was is : Finds) (rev : ℕ) → length old ≡ length entries → Keeps gives path entries from a b old new waits was is → waits ≡ left ++ rev ∷ [] → rev < length entries
keeps_low gives path entries from a b old new waits left was is rev size k taken =
    let low = mark_low new rev ((waits_marked entries from old new waits left k.texts rev k.underway taken).0) in
    let s = k.underway.size in omega (arith, low, s, size)

pub keeps_last : {S : Type 0} (gives : S → Asked → S → Type 0) (path : List ℕ) (entries : List Entry) (from : ℕ) (a b : S) (old new : List Bool) (waits : List ℕ) (was is : Finds) → Keeps gives path entries from a b old new waits was is → waits ≡ [] →
    (texts : List Text) × Chain gives a (asked_of path texts) b × Searched entries from old new texts × Adds path entries texts was is
keeps_last gives path entries from a b old new waits was is k none =
    (k.texts, k.chain, ended entries from old new k.texts (subst (λ l. Underway entries from old new l k.texts) none k.underway), k.adds)

-- the same where the filelog is known to be the same
pub keeps_on : {S : Type 0} (gives : S → Asked → S → Type 0) (path : List ℕ) (f same : Filelog) (from : ℕ) (a b c : S) (old new more : List Bool) (waits left waiting : List ℕ) (was is now : Finds) (rev : ℕ) → f ≡ same → ParentsBefore 0 (parents_in same.log.entries) → length old ≡ length same.log.entries →
    Keeps gives path same.log.entries from a b old new waits was is → waits ≡ left ++ rev ∷ [] → Marks (λ p. IsParent (parents_in f.log.entries) p rev) new more left waiting →
    ((text : List ℕ) × gives b (told path rev text) c × Adds path f.log.entries (record { rev = rev; text = text } ∷ []) is now) → Keeps gives path same.log.entries from a c old more waiting was now
keeps_on gives path f same from a b c old new more waits left waiting was is now rev e before size k taken m gave =
    keeps_next gives path same.log.entries from a b c old new more waits left waiting was is now rev before size k taken
    (subst (λ (x : Filelog). Marks (λ p. IsParent (parents_in x.log.entries) p rev) new more left waiting) e m)
    (gave.0, gave.1, subst (λ (x : Filelog). Adds path x.log.entries (record { rev = rev; text = gave.0 } ∷ []) is now) e gave.2)
