use Rattle.std.proofs.Common.{◌≡◌, ◌<◌, ◌^◌, ℤ, List, ℕ, Result, Ok, Err, arith, subst, sym, ◌∙◌}
use Rattle.std.specs.Int.{w64}
use Rattle.std.specs.Int.Signed.{mag}
use Rattle.std.specs.Fmt.{signed_decimal}
use Rattle.std.specs.Str.{IsUtf8}
use Rattle.std.proofs.lemmas.Int.{fits_signed_from_abs}
use Rattle.std.proofs.lemmas.Fmt.{parse-signed_decimal, IsAscii-signed}
use Rattle.std.proofs.lemmas.Str.{IsUtf8-from_ascii}
use Rattle.hgs_changelog.proofs.NumberLemmas.{mag-le}
use Rattle.hgs_changelog.proofs.date.parsed.Goals as goal

ok_err : {E : Type 0} (r : Result ℤ E) (x : ℤ) (y : E) → r ≡ Ok x → r ≡ Err y → ⊥
ok_err r x y e f = cc

pub returns-in-Err-clause-none : goal.returns-in-Err-clause-none
returns-in-Err-clause-none c = λ z near e.
    let P : List ℕ → Type 0 = λ t. IsUtf8 t in
    let low = mag-le z in
    let small : mag z < 2 ^ 63 = omega (arith, low, near) in
    c.in-Err.ensures.cases.0 (subst P (sym e) (IsUtf8-from_ascii (signed_decimal z) (IsAscii-signed z small)))

pub returns-in-Err-parse-clause-none : goal.returns-in-Err-parse-clause-none
returns-in-Err-parse-clause-none c = λ z near e.
    let low = mag-le z in
    let small : mag z < 2 ^ 63 = omega (arith, low, near) in
    let fits = fits_signed_from_abs w64 z (omega (arith, near)) in
    ok_err c.parse.result z c.in-Err-parse.field-0 (parse-signed_decimal w64 z c.in-Ok.text.now c.parse.result fits small (c.in-Ok.ensures.cases.0 ∙ e) c.parse.ensures.value.0) c.in-Err-parse.is
