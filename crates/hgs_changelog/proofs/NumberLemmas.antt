-- Numbers that a text spells.
use Rattle.std.proofs.Common.{◌≡◌, ℕ, ◌<◌, ◌≤◌, ◌^◌, Bool, true, false, cond, List, Some, None, ℤ, pos, negsuc, refl, sym, ap, arith, unsigned_abs, ◌&&◌, nat_le}
use Rattle.std.specs.Int.Signed.{mag}
use Rattle.std.specs.Fmt.{signed_decimal}
use Rattle.std.specs.Str.Parse.{signed_digits_value}
use Rattle.std.proofs.lemmas.Bool.{false_from_ne_true}
use Rattle.std.proofs.lemmas.Bool.{leb-true}
use Rattle.hgs_bytes.specs.Bytes.{same}
use Rattle.hgs_bytes.specs.Theorems.ByteLemmas.{same-eq}
use Rattle.hgs_index.specs.ChangeText.{number_if, number_within}

pub mag-le : (z : ℤ) → mag z ≤ unsigned_abs z
mag-le (pos n) = omega arith
mag-le (negsuc n) = omega arith

both_true : (a b : Bool) → (a && b) ≡ true → (a ≡ true) × (b ≡ true)
both_true true b e = (refl, e)
both_true false b e = cc

-- no number that is near enough is written so
pub number_missing : (most : ℕ) (text : List ℕ) → most < 2 ^ 62 → ((z : ℤ) → unsigned_abs z < 2 ^ 62 → text ≡ signed_decimal z → ⊥) → number_within most text ≡ None
unfolding number_within
number_missing most text h none =
    let z = signed_digits_value 10 text in
    let no : (same (signed_decimal z) text && nat_le (unsigned_abs z) most) ≡ false =
    false_from_ne_true _ (λ e.
    let b = both_true (same (signed_decimal z) text) (nat_le (unsigned_abs z) most) e in
    let near : unsigned_abs z ≤ most = leb-true (unsigned_abs z) most b.1 in
    none z (omega (arith, near)) (sym (same-eq (signed_decimal z) text b.0))) in
    ap (λ t. cond t (Some z) None) no

pub number_is : (most : ℕ) (text : List ℕ) (z : ℤ) → z ≡ signed_digits_value 10 text → number_within most text ≡ number_if most text z
unfolding number_within
number_is most text z e = ap (number_if most text) (sym e)
