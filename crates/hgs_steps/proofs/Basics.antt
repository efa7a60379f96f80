-- Lists, options and results.
use Rattle.std.proofs.Common.{◌≡◌, List, [], ◌∷◌, true, false}
use Rattle.std.specs.Prelude.{Result, Ok}

pub never : {A : Type 0} → true ≡ false → A
never e = absurd (no e)
  where
    no : true ≡ false → ⊥
    no h = cc

pub result-same : {A E : Type 0} (r : Result A E) (x y : A) → r ≡ Ok x → r ≡ Ok y → x ≡ y
result-same r x y e f = cc

pub head-same : {A : Type 0} (x y : A) (xs ys : List A) → x ∷ xs ≡ y ∷ ys → x ≡ y
head-same x y xs ys e = cc

pub tail-same : {A : Type 0} (x y : A) (xs ys : List A) → x ∷ xs ≡ y ∷ ys → xs ≡ ys
tail-same x y xs ys e = cc

pub nil-cons : {A B : Type 0} (x : A) (xs : List A) → [] ≡ x ∷ xs → B
nil-cons {A} x xs e = absurd (no e)
  where
    no : ◌≡◌ {A = List A} [] (x ∷ xs) → ⊥
    no h = cc
