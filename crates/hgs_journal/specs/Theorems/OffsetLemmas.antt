-- Numbers that a text spells.
use Rattle.std.proofs.Common.{◌≡◌, ℕ, ◌<◌, ◌^◌, Bool, true, false, cond, List, Option, Some, None, refl, sym, ◌∙◌, ap, subst, arith, ◌&&◌, decimal}
use Rattle.std.specs.Prelude.{nat_lt}
use Rattle.std.specs.Str.Parse.{digits_value}
use Rattle.std.proofs.lemmas.Bool.Decides.{nat_tests}
use Rattle.std.proofs.lemmas.Fmt.{decimal_is_IsNumeral}
use Rattle.hgs_bytes.specs.Bytes.{same}
use Rattle.hgs_bytes.specs.Theorems.ByteLemmas.{same-eq, same-refl}
use Rattle.hgs_journal.specs.Read.{offset_if, offset_of}

both-true : (a b : Bool) → (a && b) ≡ true → (a ≡ true) × (b ≡ true)
both-true true b e = (refl, e)
both-true false b e = cc

is-below : (n m : ℕ) → n < m → nat_lt n m ≡ true
is-below n m h = grind (arith, nat_tests)

below-is : (n m : ℕ) → nat_lt n m ≡ true → n < m
below-is n m h = grind (arith, nat_tests)

-- a number is read of its digits
pub offset-back : (n : ℕ) → n < 2 ^ 64 → offset_of (decimal n) ≡ Some n
unfolding offset_of
offset-back n few =
    ap (offset_if (decimal n)) (decimal_is_IsNumeral n few).1
    ∙ ap (λ b. cond (b && nat_lt n (2 ^ 64)) (Some n) None) (same-refl (decimal n))
    ∙ ap (λ b. cond b (Some n) None) (is-below n (2 ^ 64) few)

pub offset-found : (n : ℕ) (text : List ℕ) → n < 2 ^ 64 → same (decimal n) text ≡ true → offset_of text ≡ Some n
offset-found n text few e = subst (λ t. offset_of t ≡ Some n) (same-eq (decimal n) text e) (offset-back n few)

if-found : (b : Bool) (m n : ℕ) → cond b (Some m) None ≡ Some n → (b ≡ true) × (m ≡ n)
if-found true m n e = (refl, cc)
if-found false m n e = cc

-- what is read is the digits of a number
pub offset-digits : (text : List ℕ) (n : ℕ) → offset_of text ≡ Some n → (text ≡ decimal n) × (n < 2 ^ 64)
unfolding offset_of
offset-digits text n e =
    let m = digits_value 10 text in
    let found = if-found (same (decimal m) text && nat_lt m (2 ^ 64)) m n e in
    let both = both-true (same (decimal m) text) (nat_lt m (2 ^ 64)) found.0 in
    (sym (same-eq (decimal m) text both.0) ∙ ap decimal found.1, subst (λ k. k < 2 ^ 64) found.1 (below-is m (2 ^ 64) both.1))

-- a text that spells no number has none
pub offset-missing : (text : List ℕ) → ((n : ℕ) → n < 2 ^ 64 → text ≡ decimal n → ⊥) → offset_of text ≡ None
offset-missing text none = by (offset_of text) refl
  where
    by : (o : Option ℕ) → offset_of text ≡ o → offset_of text ≡ None
    by None e = e
    by (Some n) e = let spelled = offset-digits text n e in absurd (none n spelled.1 spelled.0)
