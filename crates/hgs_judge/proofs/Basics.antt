-- Truth values, numbers, options and lists.
use Rattle.std.proofs.Common.{◌≡◌, ◌⊎◌, ℕ, zero, suc, ◌+◌, ◌≤◌, List, [], ◌∷◌, ◌++◌, Bool, true, false, set, map, take, length, refl, sym, ◌∙◌, ap, subst, inl, inr, arith}
use Rattle.std.specs.Prelude.{Some, None, slice_get, ◌==◌}
use Rattle.std.specs.Cmp.Lexicographic.{bytes_decides}
use Rattle.std.specs.List.{AllByRecursion}
use Rattle.std.proofs.lemmas.Bool.Decides.{nat_tests}
use Rattle.std.proofs.lemmas.List.{map_push, take_more}
use Rattle.std.proofs.lemmas.Option.{slice_get_within, get_or_from_slice_get}
use Rattle.hgs_bytes.specs.Bytes.{same}

pub bool : (b : Bool) → (b ≡ true) ⊎ (b ≡ false)
bool true = inl refl
bool false = inr refl

pub never : {A : Type 0} → true ≡ false → A
never e = absurd (no_case e)
  where
    no_case : true ≡ false → ⊥
    no_case h = cc

pub eq-test : (a b : ℕ) → (a == b) ≡ true → a ≡ b
eq-test a b e = grind (arith, nat_tests)

pub eq-itself : (a : ℕ) → (a == a) ≡ true
eq-itself a = grind (arith, nat_tests)

pub slice_get-set_same : {A : Type 0} (xs : List A) (i : ℕ) (x y : A) → slice_get xs i ≡ Some x → slice_get (set xs i y) i ≡ Some y
slice_get-set_same [] i x y e = cc
slice_get-set_same (z ∷ xs) zero x y e = refl
slice_get-set_same (z ∷ xs) (suc i) x y e = slice_get-set_same xs i x y e

pub slice_get-set_other : {A : Type 0} (xs : List A) (i j : ℕ) (y : A) → (i == j) ≡ false → slice_get (set xs i y) j ≡ slice_get xs j
slice_get-set_other [] i j y e = refl
slice_get-set_other (z ∷ xs) zero zero y e = cc
slice_get-set_other (z ∷ xs) zero (suc j) y e = refl
slice_get-set_other (z ∷ xs) (suc i) zero y e = refl
slice_get-set_other (z ∷ xs) (suc i) (suc j) y e = slice_get-set_other xs i j y (let f : (i == j) ≡ false = grind (arith, nat_tests) in f)

-- a list made element by element
pub map-more : {A B : Type 0} (f : A → B) (xs : List A) (i : ℕ) (x : A) → slice_get xs i ≡ Some x → map f (take (i + 1) xs) ≡ map f (take i xs) ++ f x ∷ []
map-more f xs i x at = ap (map f) (take_more xs i x (slice_get_within xs i x at) ∙ ap (λ y. take i xs ++ y ∷ []) (get_or_from_slice_get xs i x x at)) ∙ map_push f (take i xs) x

pub take-whole : {A : Type 0} (xs : List A) (i : ℕ) → length xs ≤ i → take i xs ≡ xs
take-whole [] zero h = refl
take-whole [] (suc i) h = refl
take-whole (x ∷ xs) zero h = absurd (omega (arith, h))
take-whole (x ∷ xs) (suc i) h = ap (λ l. x ∷ l) (take-whole xs i (omega (arith, h)))

pub same-turned : (x y : List ℕ) → same x y ≡ same y x
same-turned x y = by (same x y) refl (same y x) refl
  where
    by : (a : Bool) → same x y ≡ a → (b : Bool) → same y x ≡ b → a ≡ b
    by true p true q = refl
    by false p false q = refl
    by true p false q = never (sym ((bytes_decides y x).1 (sym ((bytes_decides x y).0 p))) ∙ q)
    by false p true q = never (sym ((bytes_decides x y).1 (sym ((bytes_decides y x).0 q))) ∙ p)

pub all-push : {A : Type 0} (P : A → Type 0) (xs : List A) (x : A) → AllByRecursion P xs → P x → AllByRecursion P (xs ++ x ∷ [])
all-push P [] x all p = (p, tt)
all-push P (y ∷ xs) x all p = (all.0, all-push P xs x all.1 p)

pub all-at : {A : Type 0} (P : A → Type 0) (xs : List A) (i : ℕ) (x : A) → AllByRecursion P xs → slice_get xs i ≡ Some x → P x
all-at P [] i x all e = absurd (no e)
  where
    no : None ≡ Some x → ⊥
    no h = cc
all-at {A = A} P (y ∷ xs) zero x all e = subst P (some-same y x e) all.0
  where
    some-same : (a b : A) → Some a ≡ Some b → a ≡ b
    some-same a b h = ap (elim [ None ↦ a | Some z ↦ z ]) h
all-at P (y ∷ xs) (suc i) x all e = all-at P xs i x all.1 e
