-- The pieces in which bytes are written.
use Rattle.std.specs.Prelude.{◌≤◌, ℕ, List, [], ◌∷◌, length}
use Rattle.hgs_files.specs.declared.op.Op.{Op}
use Rattle.hgs_files.specs.declared.op.Op.TheVariants.{Append, Cut, Rename, Remove, Create, Sync, Settle}

-- the bytes that an operation brings
abbrev pub bytes_in : Op → List ℕ
bytes_in (Append path bytes) = bytes
bytes_in (Create path bytes) = bytes
bytes_in (Cut path len) = []
bytes_in (Rename from to) = []
bytes_in (Remove path) = []
bytes_in (Sync path) = []
bytes_in Settle = []

-- each of the operations brings at most so many bytes
abbrev pub AreSmall : ℕ → List Op → Type 0
AreSmall most [] = Unit {0}
AreSmall most (op ∷ ops) = (length (bytes_in op) ≤ most) × AreSmall most ops

-- the creation of a file with some bytes, and nothing where there are none
abbrev pub create_of_front : List ℕ → List ℕ → List Op
create_of_front path [] = []
create_of_front path (b ∷ bytes) = Create path (b ∷ bytes) ∷ []
