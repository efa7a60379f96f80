-- A writer at work.
use Rattle.std.specs.Prelude.{◌≡◌, ◌⊎◌, ℕ, ◌+◌, ◌-◌, ◌≤◌, List, [], ◌++◌, Bool, true, false, ◌&&◌, ◌||◌, Option, Some, None, nat_le, nat_lt, length}
use Rattle.hgs_files.specs.declared.op.Op.{Op}
use Rattle.hgs_files.specs.declared.op.Op.TheVariants.{Append}
use Rattle.hgs_files.specs.Reads.{IsSizeOf}
use Rattle.hgs_files.specs.Tree.{Tree, after_all}
use Rattle.hgs_machine.specs.Asked.{Question, Doing, Sizing, Ending, asked}
use Rattle.hgs_machine.specs.Fed.{fed, is_cleaning, is_published, is_publishing}
use Rattle.hgs_machine.specs.SoFar.{SoFar}
use Rattle.hgs_machine.specs.declared.machine.Machine.{Machine}
use Rattle.hgs_machine.specs.declared.machine.Reply.TheVariants.{Done, Failed, Size}
use Rattle.hgs_world.specs.Parts.{DoesPart, DoesRest, HasDone, op_length}
use Rattle.hgs_world.specs.Texts.{answer_line}
use Rattle.hgs_world.specs.declared.working.Deed.{Deed}
use Rattle.hgs_world.specs.declared.working.Deed.TheVariants.{All, Part, Fail}
use Rattle.hgs_world.specs.declared.working.Goal.{Goal}
use Rattle.hgs_world.specs.declared.working.Goal.TheVariants.{Publishing, Cleaning, End}
use Rattle.hgs_world.specs.declared.working.Working.{Working}

-- ---- the next operation

-- Questions for the sizes of files are answered, from a machine to this one.
pub data Sizes (t : Tree) (from : Machine) : Machine → Type 0 where
  no_more : Sizes t from from
  one_more : (m : Machine) (path : List ℕ) (size : Option ℕ) → Sizes t from m → asked m ≡ Sizing path → IsSizeOf (t path) size → Sizes t from (fed m (Size size))

abbrev pub IsSizing : Question → Type 0
IsSizing (Sizing path) = Unit {0}
IsSizing _ = ⊥

-- All questions for sizes are answered that come before the next operation, or before the end.
pub record IsAtNext (t : Tree) (from m : Machine) : Type 0 where
  pub sizes : Sizes t from m
  pub no_more : IsSizing (asked m) → ⊥

-- A question for a size was answered, or none was asked.
abbrev pub AnswersSize : Tree → Machine → Machine → Bool → Type 0
AnswersSize t old new true = (path : List ℕ) × (size : Option ℕ) × (asked old ≡ Sizing path) × IsSizeOf (t path) size × (new ≡ fed old (Size size))
AnswersSize t old new false = (new ≡ old) × (IsSizing (asked old) → ⊥)

-- what was done so far is so still
abbrev pub KeepsSoFar : Tree → Machine → Machine → Type 0
KeepsSoFar t old new = (from : Tree) (log : List Op) → after_all log from ≡ t → SoFar from old log → SoFar from new log

abbrev pub at_machine : Working → Machine → Working
at_machine w m = record w { machine = m }

-- ---- what is done of it

-- the writer once the rest of its operation is done
abbrev pub wholly : Working → Working
wholly w = record w { machine = fed w.machine Done; part = 0 }

-- the writer once its operation has failed
abbrev pub failed : Working → Working
failed w = record w { machine = fed w.machine Failed; part = 0 }

abbrev pub with_part : Working → ℕ → Working
with_part w count = record w { part = w.part + count }

-- whether fewer bytes are to be done than are left
abbrev pub is_part : Op → ℕ → ℕ → Bool
is_part op part count = nat_lt count (op_length op - part)

-- whether that is so of what is asked for
abbrev pub asks_part : Question → ℕ → ℕ → Bool
asks_part (Doing op) part count = is_part op part count
asks_part (Sizing path) part count = false
asks_part Ending part count = false

-- The rest of the operation is done; or so many bytes of it, where more are left; or so many and then it fails.
abbrev pub Does : Deed → Op → Working → List Op → Working → Type 0
Does All op w done after = DoesRest op w.part done × (after ≡ wholly w)
Does (Part count) op w done after =
    ((is_part op w.part count ≡ true) × DoesPart op w.part count done × (after ≡ with_part w count))
    ⊎ ((is_part op w.part count ≡ false) × DoesRest op w.part done × (after ≡ wholly w))
Does (Fail count) op w done after = DoesPart op w.part count done × (after ≡ failed w)

-- of a question for an operation this holds, and one for nothing more is left as it is
abbrev pub OfOperation : Question → (Op → Type 0) → Type 0 → Type 0
OfOperation (Doing op) Holds Left = Holds op
OfOperation (Sizing path) Holds Left = Left
OfOperation Ending Holds Left = Left

-- at least one byte is to be done
abbrev pub HasBytes : Deed → Type 0
HasBytes (Part count) = 1 ≤ count
HasBytes _ = Unit {0}

-- An event of the writer: questions for sizes are answered first.
pub record Acts (deed : Deed) (t : Tree) (w : Working) (done : List Op) (after : Working) : Type 0 where
  pub machine : Machine
  pub next : IsAtNext t w.machine machine
  pub does : OfOperation (asked machine) (λ op. Does deed op (at_machine w machine) done after) ((done ≡ []) × (after ≡ at_machine w machine))

-- ---- operations one after another

abbrev pub is_at : Goal → Machine → Bool
is_at Publishing m = is_publishing m
is_at Cleaning m = is_cleaning m
is_at End m = false

-- Whole operations were done, none of them where the writer was at its goal.
pub data Runs (goal : Goal) (t : Tree) (from : Working) : List Op → Working → Type 0 where
  not_yet : Runs goal t from [] from
  once_more : (log done : List Op) (w : Working) (m : Machine) (op : Op) → Runs goal t from log w → IsAtNext (after_all log t) w.machine m → asked m ≡ Doing op → is_at goal m ≡ false
      → DoesRest op w.part done → Runs goal t from (log ++ done) (wholly (at_machine w m))

abbrev pub Stops : Goal → Machine → Question → Type 0
Stops goal m (Doing op) = is_at goal m ≡ true
Stops goal m (Sizing path) = ⊥
Stops goal m Ending = Unit {0}

-- Whole operations were done up to the goal or to the end.
pub record RunsTo (goal : Goal) (t : Tree) (from : Working) (done : List Op) (after : Working) : Type 0 where
  pub last : Working
  pub runs : Runs goal t from done last
  pub machine : Machine
  pub next : IsAtNext (after_all done t) last.machine machine
  pub stops : Stops goal machine (asked machine)
  pub is : after ≡ at_machine last machine

-- A stop: so many more bytes of the next operation are done, and nothing more.
pub record StopsWithin (count : ℕ) (t : Tree) (w : Working) (done : List Op) (after : Working) : Type 0 where
  pub next : IsAtNext t w.machine after.machine
  pub is : after ≡ at_machine w after.machine
  pub does : OfOperation (asked after.machine) (λ op. DoesPart op w.part count done) (done ≡ [])

-- ---- what is published

-- whether so many more bytes are all that is left of an append of some
abbrev pub is_rest : Op → ℕ → ℕ → Bool
is_rest (Append path bytes) part count = nat_lt 0 (length bytes) && nat_le (length bytes - part) count
is_rest op part count = false

-- whether that is so of what is asked for
abbrev pub asks_rest : Question → ℕ → ℕ → Bool
asks_rest (Doing op) part count = is_rest op part count
asks_rest (Sizing path) part count = false
asks_rest Ending part count = false

-- Whether the last byte of the publishing operation stands once so many more bytes of the next operation are done.
abbrev pub publishes_with : ℕ → Working → Bool
publishes_with count w = is_published w.machine || (is_publishing w.machine && asks_rest (asked w.machine) w.part count)

-- ---- what is left of the writer, and its line

abbrev pub is_ending : Question → Bool
is_ending Ending = true
is_ending (Doing op) = false
is_ending (Sizing path) = false

abbrev pub writer_left : Question → Working → Option Working
writer_left (Doing op) w = Some w
writer_left (Sizing path) w = Some w
writer_left Ending w = None

abbrev pub line_at : Question → List ℕ → Working → List ℕ
line_at (Doing op) line w = line
line_at (Sizing path) line w = line
line_at Ending line w = answer_line w.machine.outcome w.rev w.node

-- ---- what holds of a writer between events

abbrev pub IsBegun : Question → ℕ → List Op → Type 0
IsBegun (Doing op) part begun = HasDone op part begun
IsBegun (Sizing path) part begun = (part ≡ 0) × (begun ≡ [])
IsBegun Ending part begun = (part ≡ 0) × (begun ≡ [])

-- A writer began at some tree that has become this one, and of its operation some bytes may be done.
pub record IsAtWork (now : Tree) (w : Working) : Type 0 where
  pub from : Tree
  pub log : List Op
  pub so_far : SoFar from w.machine log
  pub begun : List Op
  pub is_begun : IsBegun (asked w.machine) w.part begun
  pub is_now : after_all begun (after_all log from) ≡ now

-- so it is, whatever tree it began at
abbrev pub CanGoOn : Tree → Working → Type 0
CanGoOn now w = (IsAtWork now w → ⊥) → ⊥
