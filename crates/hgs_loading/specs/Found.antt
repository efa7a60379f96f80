-- What a call found in files that nobody else writes.
use Rattle.std.specs.Prelude.{◌≡◌, ℕ, Bool, true, List, length, Option, Result, Ok, Err, IfSome}
use Rattle.std.specs.Option.{option_map}
use Rattle.hgs_bytes.specs.Answer.{Gives}
use Rattle.hgs_files.specs.declared.op.Op.{Op}
use Rattle.hgs_files.specs.Tree.{Tree, after_all}
use Rattle.hgs_load.specs.declared.answer.ReadAnswer.{ReadAnswer}
use Rattle.hgs_load.specs.Answer.{is_of_outside}
use Rattle.hgs_load.specs.Open.{most_requires, requires_path}
use Rattle.hgs_load.specs.Requirements.{requires_answer}
use Rattle.hgs_load.specs.Whole.{within}

-- where nobody else writes and the list of operations is told, this holds of the tree
abbrev pub AtRest : Bool → Option (List Op) → Tree → (Tree → Type 0) → Type 0
AtRest alone seen start holds = alone ≡ true → IfSome seen (λ log. holds (after_all log start))

-- Where nobody else writes and the list of operations is told, a call answered what this gives of the tree, or it met a fault of the files or found no memory. `view` is what contracts see of the value.
abbrev pub Finds : {V B : Type 0} → (V → B) → Bool → Option (List Op) → Tree → (Tree → Result B ReadAnswer) → Result V ReadAnswer → Type 0
Finds view alone seen start given result = alone ≡ true → IfSome seen (λ log. Gives is_of_outside view result (given (after_all log start)))

-- one answer, and the next one with it; a refusal ends both
abbrev pub and_then : {A B : Type 0} → Result A ReadAnswer → (A → Result B ReadAnswer) → Result B ReadAnswer
and_then (Ok x) more = more x
and_then (Err e) more = Err e

-- the bytes of a file, none where it is absent; a longer one is refused
abbrev pub whole_in : ℕ → List ℕ → Tree → Result (Option (List ℕ)) ReadAnswer
whole_in most path t = within most (λ bytes. Ok bytes) (t path)

-- the length of a file, none where it is absent
abbrev pub size_in : List ℕ → Tree → Result (Option ℕ) ReadAnswer
size_in path t = Ok (option_map length (t path))

-- what `requires` says is in the profile
abbrev pub required_in : Tree → Result Unit ReadAnswer
required_in t = and_then (whole_in most_requires requires_path t) requires_answer
