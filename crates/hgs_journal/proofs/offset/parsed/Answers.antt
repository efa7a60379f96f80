use Rattle.std.proofs.Common.{◌≡◌, ℕ, List, Some, Result, Ok, Err, decimal, subst, sym, ◌∙◌, ap}
use Rattle.std.specs.Str.{IsUtf8}
use Rattle.std.proofs.lemmas.Fmt.{parse-decimal, IsAscii-decimal}
use Rattle.std.proofs.lemmas.Str.{IsUtf8-from_ascii}
use Rattle.hgs_journal.proofs.offset.parsed.Goals as goal

ok_is : {E : Type 0} (r : Result ℕ E) (x n : ℕ) → r ≡ Ok n → r ≡ Ok x → x ≡ n
ok_is r x n e f = cc

ok_err : {E : Type 0} (r : Result ℕ E) (n : ℕ) (y : E) → r ≡ Ok n → r ≡ Err y → ⊥
ok_err r n y e f = cc

pub returns-in-Ok-parse : goal.returns-in-Ok-parse
returns-in-Ok-parse c = λ n few e.
    ap (λ x. Some x) (ok_is c.parse.result c.in-Ok-parse.number n (parse-decimal 64 n c.in-Ok.text.now c.parse.result few few (c.in-Ok.ensures.cases.0 ∙ e) c.parse.ensures.value.0) c.in-Ok-parse.is)

pub returns-in-Err-parse : goal.returns-in-Err-parse
returns-in-Err-parse c = λ n few e.
    absurd (ok_err c.parse.result n c.in-Err-parse.field-0 (parse-decimal 64 n c.in-Ok.text.now c.parse.result few few (c.in-Ok.ensures.cases.0 ∙ e) c.parse.ensures.value.0) c.in-Err-parse.is)

pub returns-in-Err : goal.returns-in-Err
returns-in-Err c = λ n few e.
    let P : List ℕ → Type 0 = λ t. IsUtf8 t in
    absurd (c.in-Err.ensures.cases.0 (subst P (sym e) (IsUtf8-from_ascii (decimal n) (IsAscii-decimal n few))))
