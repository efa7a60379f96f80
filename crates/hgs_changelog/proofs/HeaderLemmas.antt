-- Lines in order.
use Rattle.std.proofs.Common.{◌≡◌, ℕ, zero, suc, ◌≤◌, true, List, [], ◌∷◌, length, drop, Some, refl, ◌∙◌, ap, arith}
use Rattle.std.specs.Prelude.{slice_get}
use Rattle.hgs_bytes.specs.Bytes.{is_below}
use Rattle.hgs_bytes.specs.Text.{ascends}

some_is : {A : Type 0} (x y : A) → Some x ≡ Some y → x ≡ y
some_is x y e = cc

pub ascends_next : (xs : List (List ℕ)) (k : ℕ) (a b : List ℕ) → slice_get xs k ≡ Some a → slice_get xs (suc k) ≡ Some b → is_below a b ≡ true → ascends (drop k xs) ≡ ascends (drop (suc k) xs)
ascends_next [] k a b f g h = cc
ascends_next (x ∷ []) k a b f g h = cc
ascends_next (x ∷ y ∷ xs) zero a b f g h = let e : x ≡ a = some_is x a f in let d : y ≡ b = some_is y b g in let t : is_below x y ≡ true = ap (λ q. is_below q y) e ∙ ap (is_below a) d ∙ h in rw t
ascends_next (x ∷ y ∷ xs) (suc k) a b f g h = ascends_next (y ∷ xs) k a b f g h

pub ascends_end : (xs : List (List ℕ)) (k : ℕ) → length xs ≤ suc k → ascends (drop k xs) ≡ true
ascends_end [] zero h = refl
ascends_end [] (suc k) h = refl
ascends_end (x ∷ []) zero h = refl
ascends_end (x ∷ y ∷ xs) zero h = absurd (omega arith)
ascends_end (x ∷ xs) (suc k) h = ascends_end xs k (omega (arith, h))
