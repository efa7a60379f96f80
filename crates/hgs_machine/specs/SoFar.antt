-- What has been done when a machine has come to a stage.
use Rattle.std.specs.Prelude.{◌≡◌, ◌⊎◌, ℕ, ◌+◌, ◌-◌, ◌*◌, ◌<◌, ◌≤◌, List, [], ◌∷◌, ◌++◌, Bool, true, Some, length, take, slice_get, Ok, Err, if◌then◌else◌, nat_lt}
use Rattle.hgs_machine.specs.declared.ended.Published.TheVariants.{No, Yes, Unknown}
use Rattle.hgs_files.specs.declared.files.FileFault.TheVariants.{Failed as CallFailed}
use Rattle.hgs_files.specs.declared.op.Op.{Op}
use Rattle.hgs_files.specs.declared.op.Op.TheVariants.{Append, Create}
use Rattle.hgs_files.specs.Files.{LeavesPieces, LeavesWhole}
use Rattle.hgs_files.specs.Log.{IsDone, append_of_rest}
use Rattle.hgs_files.specs.Reads.{IsSizeOf}
use Rattle.hgs_files.specs.Tree.{Tree, after_all, bytes_at}
use Rattle.hgs_transaction.specs.declared.assemble.Plan.{Plan}
use Rattle.hgs_machine.specs.declared.ended.Short.{Short}
use Rattle.hgs_machine.specs.declared.ended.Short.TheVariants.{Done as AllDone, Fault, Unfinished, Memory as OutOfMemory}
use Rattle.hgs_machine.specs.declared.machine.Machine.{Machine}
use Rattle.hgs_machine.specs.declared.machine.Reply.{Reply}
use Rattle.hgs_machine.specs.declared.machine.Reply.TheVariants.{Done, Failed, Memory, Size, SizeFailed, SizeMemory}
use Rattle.hgs_machine.specs.declared.machine.Stage.{Stage}
use Rattle.hgs_machine.specs.declared.machine.Stage.TheVariants.{Preparing, Beginning, Working, Publishing, Asking, Finishing, Undoing, Sweeping, Removing}
use Rattle.hgs_machine.specs.Asked.{Question, Doing, Sizing, Ending, asked, bytes_in, stray_end}
use Rattle.hgs_machine.specs.Course.{AreGone, AreSome, CarriedOut, Ends, HasBegun, before_journal, between, through_publishing}
use Rattle.hgs_machine.specs.Planned.{IsPlanned}

-- ---- stages

-- all before the journal is done, and of the operations from its rename on those up to this place, at least one
abbrev pub WorksTo : Plan → ℕ → List Op → Type 0
WorksTo p done log = HasBegun p (between p.journal done p.ops.items) log []

-- The publishing append stands with this front, and its file is so much longer than before.
pub record StandsInPart (t : Tree) (p : Plan) (log : List Op) : Type 0 where
  pub path : List ℕ
  pub front : List ℕ
  pub back : List ℕ
  pub publishes : slice_get p.ops.items p.publish ≡ Some (Append path (front ++ back))
  pub has_begun : HasBegun p (through_publishing p) log (append_of_rest path back)
  pub length_now : length (bytes_at (after_all log t) path) ≡ p.before + length front

pub record FinishesTo (p : Plan) (done : ℕ) (log : List Op) : Type 0 where
  pub working : List Op
  pub finishing : List Op
  pub has_begun : HasBegun p (through_publishing p) working []
  pub finished : IsDone (between (p.publish + 1) done p.ops.items) finishing []
  pub whole : log ≡ working ++ finishing

-- the operations that undo are done up to this place
pub record UndoesTo (p : Plan) (place : ℕ) (log : List Op) : Type 0 where
  pub working : List Op
  pub undoing : List Op
  pub op : Op
  pub left : List Op
  pub has_begun : HasBegun p (through_publishing p) working (op ∷ left)
  pub undone : IsDone (take place p.undo.items) undoing []
  pub whole : log ≡ working ++ undoing

-- the place of the first removal behind a transaction that ended so
abbrev pub sweep_from : Plan → Short → ℕ
sweep_from p AllDone = p.commit + 1
sweep_from p Fault = p.commit + 1
sweep_from p OutOfMemory = p.commit + 1
sweep_from p (Unfinished published) = stray_end p

-- the transaction ended so, and some of the removals up to this place are done
pub record SweepsTo (p : Plan) (place : ℕ) (outcome : Short) (log : List Op) : Type 0 where
  pub own : List Op
  pub removed : List Op
  pub ends : Ends p outcome own
  pub from : sweep_from p outcome ≤ place
  pub to : place ≤ length p.ops.items
  pub some : AreSome (between (sweep_from p outcome) place p.ops.items) removed
  pub whole : log ≡ own ++ removed

-- What is taken back ends with one of these
abbrev pub IsRefusal : Short → Type 0
IsRefusal Fault = Unit {0}
IsRefusal OutOfMemory = Unit {0}
IsRefusal _ = ⊥

-- what stands in the log at a stage
abbrev pub IsAt : Tree → Plan → Stage → ℕ → ℕ → Short → List Op → Type 0
IsAt t p Preparing done place outcome log = (done < p.journal) × IsDone (take done p.ops.items) log []
IsAt t p Beginning done place outcome log = (done ≡ p.journal) × IsDone (before_journal p) log []
IsAt t p Working done place outcome log = (p.journal < done) × (done < p.publish) × WorksTo p done log
IsAt t p Publishing done place outcome log = (done ≡ p.publish) × WorksTo p p.publish log
IsAt t p Asking done place outcome log = (done ≡ p.publish) × IsRefusal outcome × StandsInPart t p log
IsAt t p Finishing done place outcome log = (p.publish < done) × (done ≤ p.commit) × FinishesTo p done log
IsAt t p Undoing done place outcome log = (place < length p.undo.items) × IsRefusal outcome × UndoesTo p place log
IsAt t p Sweeping done place outcome log = SweepsTo p place outcome log
IsAt t p Removing done place outcome log = SweepsTo p place outcome log

-- of the removals up to this place no file stands, where nothing was left
abbrev pub SweepsAllTo : Tree → Plan → ℕ → Short → Bool → List Op → Type 0
SweepsAllTo t p place outcome swept log = swept ≡ true → AreGone (after_all log t) (between (sweep_from p outcome) place p.ops.items)

abbrev pub IsSwept : Tree → Plan → Stage → ℕ → Short → Bool → List Op → Type 0
IsSwept t p Sweeping place outcome swept log = SweepsAllTo t p place outcome swept log
IsSwept t p Removing place outcome swept log = SweepsAllTo t p place outcome swept log
IsSwept t p _ place outcome swept log = Unit {0}

-- The log of a machine that began at this tree.
pub record SoFar (t : Tree) (m : Machine) (log : List Op) : Type 0 where
  pub planned : IsPlanned t m.plan
  pub here : IsAt t m.plan m.stage m.done m.place m.outcome log
  pub gone : IsSwept t m.plan m.stage m.place m.outcome m.swept log

-- ---- replies

-- what an operation leaves that was done, that failed, or that found no memory
abbrev pub Leaves : Op → Reply → List Op → Type 0
Leaves (Append path bytes) Done more = LeavesPieces (Append path bytes) (Ok tt) more
Leaves (Append path bytes) Failed more = LeavesPieces (Append path bytes) (Err CallFailed) more
Leaves (Create path bytes) Done more = LeavesPieces (Create path bytes) (Ok tt) more
Leaves (Create path bytes) Failed more = LeavesPieces (Create path bytes) (Err CallFailed) more
Leaves op Done more = LeavesWhole op (Ok tt) more
Leaves op Failed more = LeavesWhole op (Err CallFailed) more
Leaves op Memory more = more ≡ []
Leaves op _ more = ⊥

-- A reply says what became of what was asked for: what the operation left in the log, or the size of the file.
abbrev pub Replies : Tree → Question → Reply → List Op → Type 0
Replies t (Doing op) reply more = Leaves op reply more
Replies t (Sizing path) (Size size) more = (more ≡ []) × IsSizeOf (t path) size
Replies t (Sizing path) SizeFailed more = more ≡ []
Replies t (Sizing path) SizeMemory more = more ≡ []
Replies t _ _ more = ⊥

-- the reply is one to what is asked for
abbrev pub Fits : Question → Reply → Type 0
Fits (Doing op) Done = Unit {0}
Fits (Doing op) Failed = Unit {0}
Fits (Doing op) Memory = Unit {0}
Fits (Sizing path) (Size size) = Unit {0}
Fits (Sizing path) SizeFailed = Unit {0}
Fits (Sizing path) SizeMemory = Unit {0}
Fits _ _ = ⊥

-- Whatever was done so far, with what the reply says it is done at the new stage.
abbrev pub Steps : Machine → Reply → Machine → Type 0
Steps old reply new = (t : Tree) (log more : List Op) → SoFar t old log → Replies (after_all log t) (asked old) reply more → SoFar t new (log ++ more)

-- Where nothing more is asked for, whatever was done so far is the log of a plan that was carried out.
abbrev pub EndsWell : Machine → Question → Type 0
EndsWell m Ending = (t : Tree) (log : List Op) → SoFar t m log → CarriedOut t m.plan m.outcome m.swept log
EndsWell m _ = Unit {0}

-- ---- causes, and how much is left

-- a reply may be why it ends so
abbrev pub Causes : Reply → Short → Type 0
Causes Failed Fault = Unit {0}
Causes Failed (Unfinished published) = Unit {0}
Causes Memory OutOfMemory = Unit {0}
Causes Memory (Unfinished published) = Unit {0}
Causes SizeFailed (Unfinished published) = Unit {0}
Causes SizeMemory (Unfinished published) = Unit {0}
Causes _ _ = ⊥

-- the question for the size failed or found no memory
abbrev pub HasNoSize : Reply → Type 0
HasNoSize SizeFailed = Unit {0}
HasNoSize SizeMemory = Unit {0}
HasNoSize _ = ⊥

-- the call failed or found no memory
abbrev pub IsRefused : Reply → Type 0
IsRefused Done = ⊥
IsRefused (Size size) = ⊥
IsRefused _ = Unit {0}

-- It ends as before, or well, or the reply is why; what is not swept, the reply is why.
pub record Blames (old : Machine) (reply : Reply) (new : Machine) : Type 0 where
  pub outcome : (new.outcome ≡ old.outcome) ⊎ ((new.outcome ≡ AllDone) ⊎ Causes reply new.outcome)
  pub swept : (new.swept ≡ old.swept) ⊎ IsRefused reply

-- the most questions that may follow
abbrev pub left_at : Plan → Stage → ℕ → ℕ → ℕ
left_at p Asking done place = 2 * (length p.ops.items - done) + length p.undo.items + 2 * length p.ops.items
left_at p Undoing done place = (length p.undo.items - place) + 2 * length p.ops.items
left_at p Sweeping done place = 2 * (length p.ops.items - place)
left_at p Removing done place = 2 * (length p.ops.items - place) - 1
left_at p _ done place = 2 * (length p.ops.items - done) + length p.undo.items + 2 * length p.ops.items + 1

abbrev pub questions_left : Machine → ℕ
questions_left m = left_at m.plan m.stage m.done m.place

-- ---- where it stands

-- of an operation that is asked for a front may be done, or nothing of it
abbrev pub IsInPart : Question → List Op → Type 0
IsInPart (Doing op) more = Leaves op Failed more
IsInPart _ more = more ≡ []

-- How a machine ends that does nothing more from where it stands, by its stage, the bytes of its operation and the end that it
-- was coming to: it is given up, or broke off before it was published, or behind that, or has ended; where its publishing
-- append stands in part that is not known.
abbrev pub stops_as : Stage → ℕ → Short → Short
stops_as Preparing bytes outcome = Fault
stops_as Beginning bytes outcome = Fault
stops_as Publishing bytes outcome = if nat_lt 0 bytes then Unfinished Unknown else Unfinished No
stops_as Asking bytes outcome = Unfinished Unknown
stops_as Finishing bytes outcome = Unfinished Yes
stops_as Sweeping bytes outcome = outcome
stops_as Removing bytes outcome = outcome
stops_as _ bytes outcome = Unfinished No

abbrev pub stopped_as : Machine → Short
stopped_as m = stops_as m.stage (bytes_in (slice_get m.plan.ops.items m.done)) m.outcome
