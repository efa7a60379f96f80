-- Bytes without meaning, four at a time.
use Rattle.std.proofs.Common.{◌≡◌, ℕ, zero, suc, ◌+◌, Bool, true, false, not, ◌||◌, List, [], ◌∷◌, ◌++◌, take, drop, refl, ◌∙◌, ap, arith}
use Rattle.std.specs.Prelude.{◌==◌}
use Rattle.std.proofs.lemmas.List.{drop-drop}
use Rattle.std.proofs.lemmas.List.Folds.{list_any-append}
use Rattle.hgs_index.specs.Entry.{is_nonzero, part}

take_none : (m : ℕ) → (let none : List ℕ = [] in none) ≡ take m []
take_none zero = refl
take_none (suc m) = refl

take_split : (n m : ℕ) (xs : List ℕ) → take (n + m) xs ≡ take n xs ++ take m (drop n xs)
take_split zero m xs = let same : 0 + m ≡ m = omega arith in ap (λ k. take k xs) same
take_split (suc n) m [] = let same : suc n + m ≡ suc (n + m) = omega arith in ap (λ k. take k []) same ∙ take_none m
take_split (suc n) m (x ∷ xs) = let same : suc n + m ≡ suc (n + m) = omega arith in ap (λ k. take k (x ∷ xs)) same ∙ ap (λ l. x ∷ l) (take_split n m xs)

parts_nonzero : (at n m : ℕ) (xs : List ℕ) → is_nonzero (part at (n + m) xs) ≡ (is_nonzero (part at n xs) || is_nonzero (part (at + n) m xs))
parts_nonzero at n m xs =
    ap is_nonzero (take_split n m (drop at xs) ∙ ap (λ l. part at n xs ++ take m l) (drop-drop n at xs))
    ∙ list_any-append (λ b. not (b == 0)) (part at n xs) (part (at + n) m xs)

any_again : (a b c : Bool) → (a || (b || c)) ≡ ((a || b) || c)
any_again true b c = refl
any_again false b c = refl

pub padding_nonzero : (xs : List ℕ) → is_nonzero (part 52 12 xs) ≡ ((is_nonzero (part 52 4 xs) || is_nonzero (part 56 4 xs)) || is_nonzero (part 60 4 xs))
padding_nonzero xs =
    parts_nonzero 52 4 8 xs ∙ ap (λ b. is_nonzero (part 52 4 xs) || b) (parts_nonzero 56 4 4 xs)
    ∙ any_again (is_nonzero (part 52 4 xs)) (is_nonzero (part 56 4 xs)) (is_nonzero (part 60 4 xs))
