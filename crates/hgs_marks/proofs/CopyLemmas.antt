-- What is cloned is the same.
use Rattle.std.proofs.Common.{◌≡◌, ℕ, List, [], ◌∷◌, map, refl, ◌∙◌, ap}
use Rattle.std.specs.List.{AllZip}

-- lists whose items are the same in turn
pub zip-same : (xs ys : List ℕ) → AllZip (λ x y. y ≡ x) xs ys → ys ≡ xs
zip-same [] [] h = refl
zip-same [] (y ∷ ys) h = absurd h
zip-same (x ∷ xs) [] h = absurd h
zip-same (x ∷ xs) (y ∷ ys) h = ap (λ z. z ∷ ys) h.0 ∙ ap (λ l. x ∷ l) (zip-same xs ys h.1)

-- lists of whose items the same is seen in turn
pub zip-map : {A B : Type 0} (f : A → B) (r : A → A → Type 0) → ((p q : A) → r p q → f q ≡ f p) → (xs ys : List A) → AllZip r xs ys → map f ys ≡ map f xs
zip-map f r each [] [] h = refl
zip-map f r each [] (y ∷ ys) h = absurd h
zip-map f r each (x ∷ xs) [] h = absurd h
zip-map f r each (x ∷ xs) (y ∷ ys) h = ap (λ z. z ∷ map f ys) (each x y h.0) ∙ ap (λ l. f x ∷ l) (zip-map f r each xs ys h.1)
