-- Numbers of any number of digits, up to a bound.
use Rattle.std.proofs.Common.{◌≡◌, ℕ, zero, suc, ◌+◌, ◌*◌, ◌-◌, ◌^◌, ◌<◌, ◌≤◌, Bool, true, false, ◌&&◌, List, [], ◌∷◌, length, drop, get_or, refl, sym, ◌∙◌, ap, arith, min, drop-cons}
use Rattle.std.specs.Prelude.{nat_le, nat_lt}
use Rattle.std.specs.List.{list_all}
use Rattle.std.specs.Char.{digit_value}
use Rattle.std.specs.Str.Parse.{digits_value_after}
use Rattle.std.proofs.lemmas.Bool.{leb-true}
use Rattle.hgs_index.specs.MarkName.{is_digit}

both_true : (a b : Bool) → (a && b) ≡ true → (a ≡ true) × (b ≡ true)
both_true true b e = (refl, e)
both_true false b e = cc

pub record InDigits (c : ℕ) : Type 0 where
  pub low : 48 ≤ c
  pub high : c ≤ 57

pub digit_in : (c : ℕ) → is_digit c ≡ true → InDigits c
digit_in c h = let b = both_true (nat_le 48 c) (nat_le c 57) h in record { low = leb-true 48 c b.0; high = leb-true c 57 b.1 }

pub digit_is : (c : ℕ) → is_digit c ≡ true → digit_value c ≡ c - 48
digit_is c h = let d = digit_in c h in let low = d.low in let high = d.high in
    let a : nat_lt c 48 ≡ false = grind arith in
    let b : nat_lt c 58 ≡ true = grind arith in
    rw (a, b)

pub digit_at : (xs : List ℕ) (i : ℕ) → list_all is_digit xs ≡ true → i < length xs → is_digit (get_or xs i 0) ≡ true
digit_at [] i h lt = absurd (omega arith)
digit_at (x ∷ xs) zero h lt = (both_true (is_digit x) (list_all is_digit xs) h).0
digit_at (x ∷ xs) (suc i) h lt = digit_at xs i (both_true (is_digit x) (list_all is_digit xs) h).1 (omega (arith, lt))

-- a number that is cut to the bound before more digits come is the same up to the bound
pub cut_before : (w b : ℕ) (ds : List ℕ) → min (digits_value_after 10 (min w b) ds) b ≡ min (digits_value_after 10 w ds) b
cut_before w b [] = omega arith
cut_before w b (c ∷ cs) =
    let near : min (min w b * 10 + digit_value c) b ≡ min (w * 10 + digit_value c) b = omega arith in
    sym (cut_before (min w b * 10 + digit_value c) b cs)
    ∙ ap (λ n. min (digits_value_after 10 n cs) b) near
    ∙ cut_before (w * 10 + digit_value c) b cs

-- a step that is cut to 64 bits, and then to a bound of so many bits, is cut to the bound
pub cut_twice : (v d b times more v' : ℕ) → b < 2 ^ 64 → times ≡ min (v * 10) (2 ^ 64 - 1) → more ≡ min (times + d) (2 ^ 64 - 1) → v' ≡ min more b → v' ≡ min (v * 10 + d) b
cut_twice v d b times more v' small e f g = omega (arith, small, e, f, g)

-- one more digit
pub digit_more : (v v' b : ℕ) (xs : List ℕ) (i all : ℕ) → i < length xs → v' ≡ min (v * 10 + (get_or xs i 0 - 48)) b → is_digit (get_or xs i 0) ≡ true →
    min (digits_value_after 10 v (drop i xs)) b ≡ all → min (digits_value_after 10 v' (drop (i + 1) xs)) b ≡ all
digit_more v v' b xs i all lt e d h =
    let x = get_or xs i 0 in
    let next : i + 1 ≡ suc i = omega arith in
    let value : v' ≡ min (v * 10 + digit_value x) b = e ∙ ap (λ n. min (v * 10 + n) b) (sym (digit_is x d)) in
    ap (λ k. min (digits_value_after 10 v' (drop k xs)) b) next
    ∙ ap (λ n. min (digits_value_after 10 n (drop (suc i) xs)) b) value
    ∙ cut_before (v * 10 + digit_value x) b (drop (suc i) xs)
    ∙ ap (λ ds. min (digits_value_after 10 v ds) b) (sym (drop-cons xs i 0 lt)) ∙ h
