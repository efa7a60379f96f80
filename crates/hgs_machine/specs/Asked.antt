-- What a machine asks for.
use Rattle.std.specs.Prelude.{◌≡◌, ℕ, ◌-◌, List, Bool, true, false, not, ◌&&◌, nat_lt, Option, Some, None, if◌then◌else◌, length, take, slice_get}
use Rattle.std.specs.List.{list_any}
use Rattle.hgs_bytes.specs.Bytes.{same}
use Rattle.hgs_files.specs.declared.op.Op.{Op}
use Rattle.hgs_files.specs.declared.op.Op.TheVariants.{Append, Remove, Create}
use Rattle.hgs_transaction.specs.declared.assemble.Plan.{Plan}
use Rattle.hgs_machine.specs.declared.ended.Ended.{Ended}
use Rattle.hgs_machine.specs.declared.machine.Machine.{Machine}
use Rattle.hgs_machine.specs.declared.machine.Next.{Next}
use Rattle.hgs_machine.specs.declared.machine.Next.TheVariants.{Do, Size, End}
use Rattle.hgs_machine.specs.declared.machine.Stage.{Stage}
use Rattle.hgs_machine.specs.declared.machine.Stage.TheVariants.{Asking, Undoing, Sweeping, Removing}

-- an operation, the size of a file, or nothing more
pub data Question : Type 0 where
  Doing : Op → Question
  Sizing : List ℕ → Question
  Ending : Question

-- whether an operation makes this file
abbrev pub makes : List ℕ → Op → Bool
makes path (Create made bytes) = same made path
makes path _ = false

-- whether what is done of the plan made this file
abbrev pub was_made : Machine → List ℕ → Bool
was_made m path = list_any (makes path) (take m.done m.plan.ops.items)

-- the place of the removals of the locks
abbrev pub stray_end : Plan → ℕ
stray_end p = length p.ops.items - 2

-- a stray is asked for by its size where the transaction did not make it
abbrev pub is_size_asked_of : Machine → Op → Bool
is_size_asked_of m (Remove path) = nat_lt m.place (stray_end m.plan) && not (was_made m path)
is_size_asked_of m _ = false

abbrev pub asks_size_in : Stage → Bool → Bool
asks_size_in Asking unknown = true
asks_size_in Sweeping unknown = unknown
asks_size_in _ unknown = false

abbrev pub asks_size : Machine → Op → Bool
asks_size m op = asks_size_in m.stage (is_size_asked_of m op)

-- the operation at a stage: of the plan, or of its list of undoing
abbrev pub op_at : Plan → Stage → ℕ → ℕ → Option Op
op_at p Undoing done place = slice_get p.undo.items place
op_at p Sweeping done place = slice_get p.ops.items place
op_at p Removing done place = slice_get p.ops.items place
op_at p _ done place = slice_get p.ops.items done

abbrev pub op_at_hand : Machine → Option Op
op_at_hand m = op_at m.plan m.stage m.done m.place

-- the question for the size of the file of an operation
abbrev pub size_question : Op → Question
size_question (Append path bytes) = Sizing path
size_question (Remove path) = Sizing path
size_question op = Doing op

abbrev pub question_of : Option Op → (Op → Bool) → Question
question_of None asks = Ending
question_of (Some op) asks = if asks op then size_question op else Doing op

abbrev pub asked : Machine → Question
asked m = question_of (op_at_hand m) (asks_size m)

-- `next` gives the question, or says how it ended
abbrev pub IsNext : Ended → Question → Next → Type 0
IsNext ended (Doing op) (Do o) = o.now ≡ op
IsNext ended (Sizing path) (Size p) = p.now ≡ path
IsNext ended Ending (End e) = e ≡ ended
IsNext ended _ _ = ⊥

-- how many bytes an append has
abbrev pub bytes_in : Option Op → ℕ
bytes_in (Some (Append path bytes)) = length bytes
bytes_in _ = 0
