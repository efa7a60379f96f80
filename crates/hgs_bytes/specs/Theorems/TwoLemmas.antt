-- Two bytes side by side.
use Rattle.std.proofs.Common.{◌≡◌, ℕ, zero, suc, ◌+◌, ◌<◌, ◌≤◌, true, false, List, [], ◌∷◌, length, take, drop, get_or, Option, Some, None, refl, sym, ◌∙◌, ap, arith, ◌&&◌, lit<}
use Rattle.std.specs.Prelude.{◌==◌, slice_index}
use Rattle.std.specs.Option.{option_map}
use Rattle.std.proofs.lemmas.Bool.{false_from_ne_true}
use Rattle.memchr.specs.Find.{FindsNeedle, OccursAt}
use Rattle.hgs_bytes.specs.Text.{split_at_two}

both_are : (a b x y : ℕ) → (x == a && y == b) ≡ true → (x ≡ a) × (y ≡ b)
both_are a b x y e = grind (arith, e)

are_both : (a b x y : ℕ) → x ≡ a → y ≡ b → (x == a && y == b) ≡ true
are_both a b x y e f = grind (arith, e, f)

-- by the first place where they stand
two_first : (a b : ℕ) (xs : List ℕ) (k : ℕ) → k + 2 ≤ length xs → get_or xs k 0 ≡ a → get_or xs (suc k) 0 ≡ b → ((j : ℕ) → j < k → get_or xs j 0 ≡ a → get_or xs (suc j) 0 ≡ b → ⊥) →
    split_at_two a b xs ≡ Some (take k xs, drop (suc (suc k)) xs)
two_first a b [] k fits e f before = absurd (omega arith)
two_first a b (x ∷ []) k fits e f before = absurd (omega arith)
two_first a b (x ∷ y ∷ xs) zero fits e f before = rw (are_both a b x y e f)
two_first a b (x ∷ y ∷ xs) (suc k) fits e f before =
    let other : (x == a && y == b) ≡ false = false_from_ne_true (x == a && y == b) (λ t. let p = both_are a b x y t in before 0 (omega arith) p.0 p.1) in
    let rest = two_first a b (y ∷ xs) k (omega (arith, fits)) e f (λ j h. before (suc j) (omega (arith, h))) in
    rw (other, rest)

two_none : (a b : ℕ) (xs : List ℕ) → ((j : ℕ) → j + 2 ≤ length xs → get_or xs j 0 ≡ a → get_or xs (suc j) 0 ≡ b → ⊥) → split_at_two a b xs ≡ None
two_none a b [] none = refl
two_none a b (x ∷ []) none = refl
two_none a b (x ∷ y ∷ xs) none =
    let other : (x == a && y == b) ≡ false = false_from_ne_true (x == a && y == b) (λ t. let p = both_are a b x y t in none 0 (omega arith) p.0 p.1) in
    let rest = two_none a b (y ∷ xs) (λ j h. none (suc j) (omega (arith, h))) in
    rw (other, rest)

at_two : (a b : ℕ) (xs : List ℕ) (j i : ℕ) → i < 2 → get_or xs j 0 ≡ a → get_or xs (suc j) 0 ≡ b → slice_index xs (j + i) ≡ slice_index (a ∷ b ∷ []) i
at_two a b xs j zero h e f = let j_is : j + 0 ≡ j = omega arith in ap (slice_index xs) j_is ∙ e
at_two a b xs j (suc zero) h e f = let j_is : j + 1 ≡ suc j = omega arith in ap (slice_index xs) j_is ∙ f
at_two a b xs j (suc (suc i)) h e f = absurd (omega arith)

occurs : (a b : ℕ) (xs : List ℕ) (j : ℕ) → j + 2 ≤ length xs → get_or xs j 0 ≡ a → get_or xs (suc j) 0 ≡ b → OccursAt xs (a ∷ b ∷ []) j
occurs a b xs j fits e f = record { fits = fits; reads = λ i h. at_two a b xs j i h e f }

two_found : (a b : ℕ) (xs : List ℕ) (k : ℕ) → FindsNeedle xs (a ∷ b ∷ []) 0 (Some k) → split_at_two a b xs ≡ Some (take k xs, drop (k + 2) xs)
two_found a b xs k h =
    let zeroth : k + 0 ≡ k = omega arith in
    let first : k + 1 ≡ suc k = omega arith in
    let second : suc (suc k) ≡ k + 2 = omega arith in
    two_first a b xs k h.1.fits (sym (ap (slice_index xs) zeroth) ∙ h.1.reads 0 (lit< tt)) (sym (ap (slice_index xs) first) ∙ h.1.reads 1 (lit< tt))
    (λ j lt e f. h.0.before j (omega arith) lt (occurs a b xs j (omega (arith, lt, h.1.fits)) e f))
    ∙ ap (λ n. Some (take k xs, drop n xs)) second

-- where the two bytes are found is where the text is split
pub two_answer : (a b : ℕ) (xs : List ℕ) (place : Option ℕ) → FindsNeedle xs (a ∷ b ∷ []) 0 place → option_map (λ k. (take k xs, drop (k + 2) xs)) place ≡ split_at_two a b xs
two_answer a b xs None h = sym (two_none a b xs (λ j fits e f. h j (omega arith) (omega (arith, fits)) (occurs a b xs j fits e f)))
two_answer a b xs (Some k) h = sym (two_found a b xs k h)
