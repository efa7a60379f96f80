-- A fault that the definition gives is a right answer.
use Rattle.std.proofs.Common.{◌≡◌, Bool, true, false, Result, Err}
use Rattle.std.specs.Prelude.{⊤}
use Rattle.std.specs.Bool.{MatchBool}
use Rattle.hgs_bytes.specs.Answer.{Gives}

either_way : (b : Bool) (P : Type 0) → P → MatchBool b ⊤ P
either_way true P p = tt
either_way false P p = p

pub gives_err : {A B E : Type 0} (is_memory : E → Bool) (view : A → B) (e : E) (answer : Result B E) → answer ≡ Err e → Gives is_memory view (Err e) answer
gives_err is_memory view e answer h = either_way (is_memory e) (answer ≡ Err e) h
