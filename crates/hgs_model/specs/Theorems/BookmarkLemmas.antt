-- Bookmarks that are set and removed stay in order.
use Rattle.std.proofs.Common.{◌≡◌, ℕ, List, [], ◌∷◌, Bool, true, false, cond, map, refl, sym, subst}
use Rattle.std.specs.Prelude.{filter}
use Rattle.std.specs.List.{AllByRecursion}
use Rattle.hgs_bytes.specs.Bytes.{same, is_below}
use Rattle.hgs_bytes.specs.Text.{ascends}
use Rattle.hgs_bytes.specs.Theorems.ByteLemmas.{same-eq}
use Rattle.hgs_model.specs.Repo.{Bookmark}
use Rattle.hgs_model.specs.Step.{with_mark}
use Rattle.hgs_model.specs.Theorems.ListLemmas.{heads, and-both, ascends-cons, ascends-head, ascends-tail, below-or, below-trans}

abbrev pub names_of : List Bookmark → List (List ℕ)
names_of marks = map (λ (m : Bookmark). m.name) marks

with_mark-head : (x : List ℕ) (marks : List Bookmark) (name : List ℕ) (rev : ℕ) → heads x (names_of marks) ≡ true → is_below x name ≡ true → heads x (names_of (with_mark marks name rev)) ≡ true
with_mark-head x [] name rev h b = b
with_mark-head x (m ∷ marks) name rev h b = by (same name m.name) (is_below name m.name)
  where
    by : (p q : Bool) → heads x (names_of (cond p (record { name = name; rev = rev } ∷ marks) (cond q (record { name = name; rev = rev } ∷ m ∷ marks) (m ∷ with_mark marks name rev)))) ≡ true
    by true q = b
    by false true = b
    by false false = h

pub with_mark-ordered : (marks : List Bookmark) (name : List ℕ) (rev : ℕ) → ascends (names_of marks) ≡ true → ascends (names_of (with_mark marks name rev)) ≡ true
with_mark-ordered [] name rev a = refl
with_mark-ordered (m ∷ marks) name rev a = by (with_mark-ordered marks name rev (ascends-tail m.name (names_of marks) a)) (same name m.name) (is_below name m.name) refl refl
  where
    by : ascends (names_of (with_mark marks name rev)) ≡ true → (p q : Bool) → same name m.name ≡ p → is_below name m.name ≡ q → ascends (names_of (cond p (record { name = name; rev = rev } ∷ marks) (cond q (record { name = name; rev = rev } ∷ m ∷ marks) (m ∷ with_mark marks name rev)))) ≡ true
    by rec true q e f = subst (λ n. ascends (n ∷ names_of marks) ≡ true) (sym (same-eq name m.name e)) a
    by rec false true e f = and-both _ _ f a
    by rec false false e f = ascends-cons m.name (names_of (with_mark marks name rev))
        (with_mark-head m.name marks name rev (ascends-head m.name (names_of marks) a) (below-or name m.name e f)) rec

pub with_mark-all : (P : Bookmark → Type 0) (marks : List Bookmark) (name : List ℕ) (rev : ℕ) → AllByRecursion P marks → P (record { name = name; rev = rev }) → AllByRecursion P (with_mark marks name rev)
with_mark-all P [] name rev all p = (p, tt)
with_mark-all P (m ∷ marks) name rev all p = by (with_mark-all P marks name rev all.1 p) (same name m.name) (is_below name m.name)
  where
    by : AllByRecursion P (with_mark marks name rev) → (a b : Bool) → AllByRecursion P (cond a (record { name = name; rev = rev } ∷ marks) (cond b (record { name = name; rev = rev } ∷ m ∷ marks) (m ∷ with_mark marks name rev)))
    by rec true b = (p, all.1)
    by rec false true = (p, all)
    by rec false false = (all.0, rec)

weaken-head : (x y : List ℕ) (zs : List (List ℕ)) → is_below x y ≡ true → heads y zs ≡ true → heads x zs ≡ true
weaken-head x y [] a b = refl
weaken-head x y (z ∷ zs) a b = below-trans x y z a b

filter-head : (x : List ℕ) (f : Bookmark → Bool) (marks : List Bookmark) → ascends (names_of marks) ≡ true → heads x (names_of marks) ≡ true → heads x (names_of (filter f marks)) ≡ true
filter-head x f [] a h = refl
filter-head x f (m ∷ marks) a h = by (filter-head x f marks (ascends-tail m.name (names_of marks) a) (weaken-head x m.name (names_of marks) h (ascends-head m.name (names_of marks) a))) (f m)
  where
    by : heads x (names_of (filter f marks)) ≡ true → (b : Bool) → heads x (names_of (cond b (m ∷ filter f marks) (filter f marks))) ≡ true
    by rec true = h
    by rec false = rec

pub filter-ordered : (f : Bookmark → Bool) (marks : List Bookmark) → ascends (names_of marks) ≡ true → ascends (names_of (filter f marks)) ≡ true
filter-ordered f [] a = refl
filter-ordered f (m ∷ marks) a = by (filter-ordered f marks (ascends-tail m.name (names_of marks) a)) (f m)
  where
    by : ascends (names_of (filter f marks)) ≡ true → (b : Bool) → ascends (names_of (cond b (m ∷ filter f marks) (filter f marks))) ≡ true
    by rec true = ascends-cons m.name _ (filter-head m.name f marks (ascends-tail m.name (names_of marks) a) (ascends-head m.name (names_of marks) a)) rec
    by rec false = rec
