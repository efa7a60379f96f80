-- What a call that may run out of memory answers.
use Rattle.std.specs.Prelude.{◌≡◌, Bool, Result, Ok, Err, ⊤}
use Rattle.std.specs.Bool.{MatchBool}

-- The call answered what the definition gives, or found no memory. `is_memory` picks the fault that stands for want of memory, and `view` is what contracts see of the value.
abbrev pub Gives : {A B E : Type 0} → (E → Bool) → (A → B) → Result A E → Result B E → Type 0
Gives is_memory view (Ok x) answer = answer ≡ Ok (view x)
Gives is_memory view (Err e) answer = MatchBool (is_memory e) ⊤ (answer ≡ Err e)
