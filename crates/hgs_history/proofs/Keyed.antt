-- Items with numbers, some of each number.
use Rattle.std.proofs.Common.{◌≡◌, ◌≤◌, ◌<◌, ℕ, suc, ◌+◌, ◌==◌, Bool, true, false, List, [], ◌∷◌, ◌++◌, length, cond, refl, ap, ◌∙◌, arith, nat_lt}
use Rattle.std.specs.Prelude.{filter, sum_by, min, fold}
use Rattle.std.proofs.lemmas.Bool.Decides.{nat_tests}
use Rattle.std.proofs.lemmas.List.Elements.{filter-append}
use Rattle.std.proofs.lemmas.List.Sums.{sum_by-cons}

module _ {C : Type 0} (key : C → ℕ) where
  -- the items of this number
  abbrev pub of_key : ℕ → List C → List C
  of_key k xs = filter (λ x. key x == k) xs

  -- what the items from this number on weigh
  abbrev pub weight_from : (C → ℕ) → ℕ → List C → ℕ
  weight_from g k [] = 0
  weight_from g k (x ∷ xs) = cond (nat_lt (key x) k) 0 (g x) + weight_from g k xs

  -- they are those of this number and those behind it
  pub splits : (g : C → ℕ) (k : ℕ) (xs : List C) → weight_from g k xs ≡ sum_by g (of_key k xs) + weight_from g (suc k) xs
  splits g k [] = refl
  splits g k (x ∷ xs) = by (splits g k xs) (nat_lt (key x) k) refl (key x == k) refl (nat_lt (key x) (suc k)) refl
    where
      by : (rest : weight_from g k xs ≡ sum_by g (of_key k xs) + weight_from g (suc k) xs) → (a : Bool) → nat_lt (key x) k ≡ a → (b : Bool) → (key x == k) ≡ b → (d : Bool) → nat_lt (key x) (suc k) ≡ d → weight_from g k (x ∷ xs) ≡ sum_by g (of_key k (x ∷ xs)) + weight_from g (suc k) (x ∷ xs)
      by rest true a false b true d = rw (a, b, d) (omega (arith, rest))
      by rest false a true b true d = rw (a, b, d) (omega (arith, rest, sum_by-cons g x (of_key k xs)))
      by rest false a false b false d = rw (a, b, d) (omega (arith, rest))
      by rest true a true b c d = absurd (grind (arith, nat_tests))
      by rest true a false b false d = absurd (grind (arith, nat_tests))
      by rest false a true b false d = absurd (grind (arith, nat_tests))
      by rest false a false b true d = absurd (grind (arith, nat_tests))

  -- from the first on they are all
  pub whole : (g : C → ℕ) (xs : List C) → weight_from g 0 xs ≡ sum_by g xs
  whole g [] = refl
  whole g (x ∷ xs) = by (whole g xs) (nat_lt (key x) 0) refl
    where
      by : (rest : weight_from g 0 xs ≡ sum_by g xs) → (a : Bool) → nat_lt (key x) 0 ≡ a → weight_from g 0 (x ∷ xs) ≡ sum_by g (x ∷ xs)
      by rest false a = rw a (omega (arith, rest, sum_by-cons g x xs))
      by rest true a = absurd (grind (arith, nat_tests))

  -- those of one number in a list that is put together
  pub of_key-found : (k : ℕ) (xs ys : List C) (x : C) → key x ≡ k → of_key k (xs ++ x ∷ ys) ≡ of_key k xs ++ x ∷ of_key k ys
  of_key-found k xs ys x is = filter-append (λ y. key y == k) xs (x ∷ ys) ∙ ap (λ l. of_key k xs ++ l) (here (key x == k) refl)
    where
      here : (b : Bool) → (key x == k) ≡ b → of_key k (x ∷ ys) ≡ x ∷ of_key k ys
      here true e = rw e refl
      here false e = absurd (grind (arith, nat_tests))

-- one each
pub ones : {C : Type 0} (xs : List C) → sum_by (λ x. 1) xs ≡ length xs
ones [] = refl
ones (x ∷ xs) = sum_by-cons (λ x. 1) x xs ∙ omega (arith, ones xs)

-- a count that is not at its greatest has not stopped
pub not_stopped : (g a b : ℕ) → min (a + b) g < g → min (a + b) g ≡ a + b
not_stopped g a b lt = omega (arith, lt)

module _ (g : ℕ) where
  abbrev up : ℕ → ℕ → ℕ
  up a b = min (a + b) g

  at-least : {R : Type 0} (count : R → ℕ) (n : ℕ) (rs : List R) → n ≤ g → n ≤ fold (λ m r. up m (count r)) n rs
  at-least count n [] le = omega arith
  at-least count n (r ∷ rs) le = let k = at-least count (up n (count r)) rs (omega arith) in omega (arith, k, le)

  -- nor has one of several together
  pub total-from : {R : Type 0} (count : R → ℕ) (n : ℕ) (rs : List R) → n < g → fold (λ m r. up m (count r)) n rs < g → fold (λ m r. up m (count r)) n rs ≡ n + sum_by count rs
  total-from count n [] lt less = omega (arith)
  total-from count n (r ∷ rs) lt less =
      let le = at-least count (up n (count r)) rs (omega arith) in
      let small : up n (count r) < g = omega (arith, le, less) in
      let rest = total-from count (up n (count r)) rs small less in
      omega (arith, rest, small, sum_by-cons count r rs)
