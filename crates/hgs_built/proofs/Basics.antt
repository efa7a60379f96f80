-- Truth values, options and equal bytes.
use Rattle.std.proofs.Common.{◌≡◌, ◌⊎◌, ℕ, List, [], ◌∷◌, ◌++◌, Bool, true, false, ◌&&◌, ◌||◌, not, refl, sym, ◌∙◌, ap, inl, inr}
use Rattle.std.specs.Prelude.{Some, None}
use Rattle.std.specs.Cmp.Lexicographic.{bytes_decides}
use Rattle.hgs_bytes.specs.Bytes.{same, among}

pub never : {A : Type 0} → true ≡ false → A
never e = absurd (no_case e)
  where
    no_case : true ≡ false → ⊥
    no_case h = cc

pub bool : (b : Bool) → (b ≡ true) ⊎ (b ≡ false)
bool true = inl refl
bool false = inr refl

pub and-left : (a b : Bool) → (a && b) ≡ true → a ≡ true
and-left true b e = refl
and-left false b e = e

pub and-right : (a b : Bool) → (a && b) ≡ true → b ≡ true
and-right true b e = e
and-right false b e = never (sym e)

pub and-both : (a b : Bool) → a ≡ true → b ≡ true → (a && b) ≡ true
and-both true b e f = f
and-both false b e f = e

pub not-true : (b : Bool) → not b ≡ true → b ≡ false
not-true true e = sym e
not-true false e = refl

pub some-same : {A : Type 0} (d x y : A) → Some x ≡ Some y → x ≡ y
some-same d x y e = ap (elim [ None ↦ d | Some z ↦ z ]) e

pub none-some : {A B : Type 0} (x : A) → None ≡ Some x → B
none-some x e = absurd (no e)
  where
    no : None ≡ Some x → ⊥
    no h = cc

pub same-refl : (x : List ℕ) → same x x ≡ true
same-refl x = (bytes_decides x x).1 refl

pub same-eq : (x y : List ℕ) → same x y ≡ true → x ≡ y
same-eq x y e = (bytes_decides x y).0 e

pub same-not : (p q : List ℕ) → same p q ≡ false → same q p ≡ false
same-not p q e = elim (bool (same q p)) [
  | inl h ↦ never (sym (same-refl p) ∙ ap (same p) (sym (same-eq q p h)) ∙ e)
  | inr h ↦ h
]

-- ---- what stands in a list

pub among-more : (x y : List ℕ) (ys : List (List ℕ)) → among x ys ≡ true → among x (y ∷ ys) ≡ true
among-more x y ys e = by (same x y)
  where
    by : (b : Bool) → (b || among x ys) ≡ true
    by true = refl
    by false = e

pub among-first : (x : List ℕ) (ys : List (List ℕ)) → among x (x ∷ ys) ≡ true
among-first x ys = ap (λ b. b || among x ys) (same-refl x)

pub among-both : (x : List ℕ) (xs ys : List (List ℕ)) → among x (xs ++ ys) ≡ (among x xs || among x ys)
among-both x [] ys = refl
among-both x (y ∷ xs) ys = by (same x y) (among-both x xs ys)
  where
    by : (b : Bool) → among x (xs ++ ys) ≡ (among x xs || among x ys) → (b || among x (xs ++ ys)) ≡ ((b || among x xs) || among x ys)
    by true rec = refl
    by false rec = rec

-- what stands apart from each of a list is none of them
pub apart-from : (x y : List ℕ) (ys : List (List ℕ)) → among y ys ≡ true → among x ys ≡ false → same y x ≡ false
apart-from x y ys e f = elim (bool (same y x)) [
  | inl h ↦ never (sym e ∙ ap (λ z. among z ys) (same-eq y x h) ∙ f)
  | inr h ↦ h
]
