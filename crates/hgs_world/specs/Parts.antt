-- An operation that is done in parts.
use Rattle.std.specs.Prelude.{◌≡◌, ℕ, zero, suc, ◌<◌, List, [], ◌∷◌, length, take, drop}
use Rattle.hgs_files.specs.declared.op.Op.{Op}
use Rattle.hgs_files.specs.declared.op.Op.TheVariants.{Append, Create}
use Rattle.hgs_files.specs.Log.{IsDone, append_of_rest}
use Rattle.hgs_mem.specs.Pieces.{bytes_in, create_of_front}
use Rattle.hgs_machine.specs.SoFar.{Leaves}
use Rattle.hgs_machine.specs.declared.machine.Reply.TheVariants.{Done}

-- how many bytes an operation brings
abbrev pub op_length : Op → ℕ
op_length op = length (bytes_in op)

-- What is left of an operation is done, of which so many bytes are done.
abbrev pub DoesRest : Op → ℕ → List Op → Type 0
DoesRest op zero done = Leaves op Done done
DoesRest (Append path bytes) (suc n) done = IsDone (append_of_rest path (drop (suc n) bytes)) done []
DoesRest (Create path bytes) (suc n) done = IsDone (append_of_rest path (drop (suc n) bytes)) done []
DoesRest op (suc n) done = Leaves op Done done

-- So many more bytes of it are done, at most those that are left; a creation without bytes is not begun.
abbrev pub DoesPart : Op → ℕ → ℕ → List Op → Type 0
DoesPart (Append path bytes) part count done = IsDone (append_of_rest path (take count (drop part bytes))) done []
DoesPart (Create path bytes) zero count done = IsDone (create_of_front path (take count bytes)) done []
DoesPart (Create path bytes) (suc n) count done = IsDone (append_of_rest path (take count (drop (suc n) bytes))) done []
DoesPart op part count done = done ≡ []

-- so many bytes of it are done, and some are left
abbrev pub HasDone : Op → ℕ → List Op → Type 0
HasDone op zero begun = begun ≡ []
HasDone (Append path bytes) (suc n) begun = (suc n < length bytes) × IsDone (Append path bytes ∷ []) begun (append_of_rest path (drop (suc n) bytes))
HasDone (Create path bytes) (suc n) begun = (suc n < length bytes) × IsDone (Create path bytes ∷ []) begun (append_of_rest path (drop (suc n) bytes))
HasDone op (suc n) begun = ⊥
