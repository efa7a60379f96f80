-- Words that are all known.
use Rattle.std.proofs.Common.{◌≡◌, List, [], ◌∷◌, Bool, true, false, cond, not, ◌&&◌, Some, None, refl}
use Rattle.std.specs.Prelude.{find}
use Rattle.std.specs.List.{list_all}

pub none-found : {A : Type 0} (f : A → Bool) (xs : List A) → list_all f xs ≡ true → find (λ x. not (f x)) xs ≡ None
none-found f [] e = refl
none-found {A = A} f (x ∷ xs) e = by (f x) e (none-found f xs)
  where
    by : (b : Bool) → (b && list_all f xs) ≡ true → (list_all f xs ≡ true → find (λ x. not (f x)) xs ≡ None) → cond (not b) (Some x) (find (λ x. not (f x)) xs) ≡ None
    by true h more = more h
    by false h more = cc
