-- Numbers and how they are written.
use Rattle.std.proofs.Common.{◌≡◌, ℕ, suc, ◌<◌, ◌≤◌, ◌^◌, Bool, true, false, cond, List, [], ◌∷◌, Some, None, ℤ, pos, negsuc, refl, sym, ◌∙◌, ap, subst, arith, unsigned_abs, ◌&&◌, nat_le, lit<}
use Rattle.std.specs.Prelude.{◌==◌, neg_ℤ, nat_lt}
use Rattle.std.specs.Char.{digit_value}
use Rattle.std.specs.Fmt.{decimal, signed_decimal}
use Rattle.std.specs.Str.Parse.{IsNumeral, AllDigits, digits_value, signed_digits_value}
use Rattle.std.proofs.lemmas.Bool.{leb-true, leb-false, le-leb, false_from_ne_true}
use Rattle.std.proofs.lemmas.Fmt.{decimal_is_IsNumeral}
use Rattle.hgs_bytes.specs.Bytes.{same}
use Rattle.hgs_bytes.specs.Text.{Lacks}
use Rattle.hgs_bytes.specs.Theorems.ByteLemmas.{same-refl, same-eq}
use Rattle.hgs_bytes.specs.Theorems.TextLemmas.{number_is}
use Rattle.hgs_index.specs.ChangeText.{number_if, number_within}

some_is : {A : Type 0} (x y : A) → Some x ≡ Some y → x ≡ y
some_is x y e = cc

-- no digit is a byte below `0`
digit-step : (t : Bool) (c rest : ℕ) → nat_lt c 48 ≡ t → cond t 36 rest < 10 → 48 ≤ c
digit-step true c rest e h = absurd (omega (arith, h))
digit-step false c rest e h = let k = leb-false (suc c) 48 e in omega (arith, k)

digit_is : (c : ℕ) → digit_value c < 10 → 48 ≤ c
digit_is c h = digit-step (nat_lt c 48) c _ refl h

other_byte : (c b : ℕ) → b < 48 → 48 ≤ c → (c == b) ≡ false
other_byte c b h k = false_from_ne_true (c == b) (λ t. let e = number_is c b t in absurd (omega (arith, e, h, k)))

digits_lack : (byte : ℕ) (ds : List ℕ) → byte < 48 → AllDigits 10 ds → Lacks byte ds
digits_lack byte [] h d = tt
digits_lack byte (c ∷ cs) h d = (other_byte c byte h (digit_is c d.0), digits_lack byte cs h d.1)

-- neither a space nor LF stands in a number
pub number_lacks : (byte : ℕ) (z : ℤ) → byte < 45 → unsigned_abs z < 2 ^ 62 → Lacks byte (signed_decimal z)
number_lacks byte (pos n) h near = digits_lack byte (decimal n) (omega (arith, h)) (decimal_is_IsNumeral n (omega (arith, near))).0.1
number_lacks byte (negsuc n) h near = (false_from_ne_true (45 == byte) (λ t. let e = number_is 45 byte t in absurd (omega (arith, e, h))), digits_lack byte (decimal (suc n)) (omega (arith, h)) (decimal_is_IsNumeral (suc n) (omega (arith, near))).0.1)

no_sign : (ds : List ℕ) → IsNumeral 10 ds → signed_digits_value 10 ds ≡ pos (digits_value 10 ds)
no_sign [] h = absurd (omega (arith, h.0))
no_sign (c ∷ cs) h =
    let low = digit_is c h.1.0 in
    rw (other_byte c 45 (lit< tt) low, other_byte c 43 (lit< tt) low)

pub number_value : (z : ℤ) → unsigned_abs z < 2 ^ 62 → signed_digits_value 10 (signed_decimal z) ≡ z
number_value (pos n) near = let k = decimal_is_IsNumeral n (omega (arith, near)) in no_sign (decimal n) k.0 ∙ ap pos k.1
number_value (negsuc n) near = let k = decimal_is_IsNumeral (suc n) (omega (arith, near)) in ap (λ m. neg_ℤ (pos m)) k.1

pub number_back : (most : ℕ) (z : ℤ) → most < 2 ^ 62 → unsigned_abs z ≤ most → number_within most (signed_decimal z) ≡ Some z
unfolding number_within
number_back most z small near =
    ap (number_if most (signed_decimal z)) (number_value z (omega (arith, small, near)))
    ∙ rw (same-refl (signed_decimal z), le-leb (unsigned_abs z) most near)

both_true : (a b : Bool) → (a && b) ≡ true → (a ≡ true) × (b ≡ true)
both_true true b e = (refl, e)
both_true false b e = cc

found-step : (t : Bool) (x z : ℤ) → cond t (Some x) None ≡ Some z → (t ≡ true) × (x ≡ z)
found-step true x z e = (refl, some_is x z e)
found-step false x z e = cc

pub number_found : (most : ℕ) (text : List ℕ) (z : ℤ) → number_within most text ≡ Some z → (text ≡ signed_decimal z) × (unsigned_abs z ≤ most)
unfolding number_within
number_found most text z e =
    let x = signed_digits_value 10 text in
    let s = found-step (same (signed_decimal x) text && nat_le (unsigned_abs x) most) x z e in
    let b = both_true (same (signed_decimal x) text) (nat_le (unsigned_abs x) most) s.0 in
    let P : ℤ → Type 0 = λ y. (text ≡ signed_decimal y) × (unsigned_abs y ≤ most) in
    subst P s.1 (sym (same-eq (signed_decimal x) text b.0), leb-true (unsigned_abs x) most b.1)
