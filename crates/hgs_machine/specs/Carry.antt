-- Carrying a plan out over files.
use Rattle.std.specs.Prelude.{◌≡◌, ◌⊎◌, ℕ, ◌≤◌, List, [], ◌++◌, Bool, false, Option, Some, None, Result, Ok, Err}
use Rattle.std.specs.Option.{ForSome}
use Rattle.hgs_files.specs.declared.files.FileFault.{FileFault}
use Rattle.hgs_files.specs.declared.files.FileFault.TheVariants.{Failed as CallFailed, Memory as NoMemory}
use Rattle.hgs_files.specs.declared.op.Op.{Op}
use Rattle.hgs_files.specs.Files.{MayDo}
use Rattle.hgs_files.specs.Reads.{Rises, Rose}
use Rattle.hgs_files.specs.Tree.{Tree, after_all}
use Rattle.hgs_machine.specs.declared.ended.Short.{Short}
use Rattle.hgs_machine.specs.declared.ended.Short.TheVariants.{Done as AllDone, Fault, Unfinished, Memory as OutOfMemory}
use Rattle.hgs_machine.specs.declared.machine.Machine.{Machine}
use Rattle.hgs_machine.specs.declared.machine.Reply.{Reply}
use Rattle.hgs_machine.specs.declared.machine.Reply.TheVariants.{Done, Failed, Memory, Size, SizeFailed, SizeMemory}
use Rattle.hgs_transaction.specs.declared.assemble.Plan.{Plan}
use Rattle.hgs_machine.specs.Asked.{Doing, Question}
use Rattle.hgs_machine.specs.Course.{CarriedOut}
use Rattle.hgs_machine.specs.SoFar.{Replies, SoFar}

-- what became of an operation
abbrev pub reply_of : Result Unit FileFault → Reply
reply_of (Ok x) = Done
reply_of (Err CallFailed) = Failed
reply_of (Err NoMemory) = Memory

-- what became of a question for a size
abbrev pub size_reply_of : Result (Option ℕ) FileFault → Reply
size_reply_of (Ok size) = Size size
size_reply_of (Err CallFailed) = SizeFailed
size_reply_of (Err NoMemory) = SizeMemory

-- the tree now, where the list of operations is told
abbrev pub tree_now : Option (List Op) → Tree → Tree
tree_now None start = start
tree_now (Some log) start = after_all log start

-- what was done at this tree is what the reply says, or nothing
abbrev pub IsReplied : Tree → Question → Option Reply → List Op → Type 0
IsReplied now question None more = more ≡ []
IsReplied now question (Some reply) more = Replies now question reply more

-- what a reply counts
abbrev pub Counted : ℕ → ℕ → ℕ → ℕ → Reply → Type 0
Counted faults_old faults_new denied_old denied_new Failed = Rises faults_old faults_new 1 × (denied_new ≡ denied_old)
Counted faults_old faults_new denied_old denied_new SizeFailed = Rises faults_old faults_new 1 × (denied_new ≡ denied_old)
Counted faults_old faults_new denied_old denied_new Memory = (faults_new ≡ faults_old) × Rises denied_old denied_new 1
Counted faults_old faults_new denied_old denied_new SizeMemory = (faults_new ≡ faults_old) × Rises denied_old denied_new 1
Counted faults_old faults_new denied_old denied_new _ = (faults_new ≡ faults_old) × (denied_new ≡ denied_old)

abbrev pub CountsReply : ℕ → ℕ → ℕ → ℕ → Option Reply → Type 0
CountsReply faults_old faults_new denied_old denied_new None = (faults_new ≡ faults_old) × (denied_new ≡ denied_old)
CountsReply faults_old faults_new denied_old denied_new (Some reply) = Counted faults_old faults_new denied_old denied_new reply

-- What was done more is the next step of the machine, from whatever tree it began at that has become the tree now.
abbrev pub IsStep : Tree → Machine → Machine → List Op → Type 0
IsStep now old new more = (t : Tree) (done : List Op) → after_all done t ≡ now → SoFar t old done → SoFar t new (done ++ more)

-- the files take what a machine asks for
abbrev pub MayAsk : Option (List Op) → (List Op → Type 0) → Question → Type 0
MayAsk log allows (Doing op) = MayDo log allows op
MayAsk log allows question = Unit {0}

-- The files take whatever a plan leaves that is carried out from the tree now, also where it breaks off.
abbrev pub MayCarry : Option (List Op) → (List Op → Type 0) → Tree → Plan → Type 0
MayCarry log allows start plan = ForSome log (λ l. (outcome : Short) (swept : Bool) (more : List Op) → CarriedOut (after_all l start) plan outcome swept more → allows (l ++ more))

-- A machine began at some tree that has become this one.
pub record IsUnderWay (now : Tree) (m : Machine) : Type 0 where
  pub from : Tree
  pub log : List Op
  pub is_now : after_all log from ≡ now
  pub so_far : SoFar from m log

-- A transaction ends otherwise than well only where a count rose.
abbrev pub IsCaused : ℕ → ℕ → ℕ → ℕ → Short → Type 0
IsCaused faults_old faults_new denied_old denied_new AllDone = Unit {0}
IsCaused faults_old faults_new denied_old denied_new Fault = Rose faults_old faults_new
IsCaused faults_old faults_new denied_old denied_new OutOfMemory = Rose denied_old denied_new
IsCaused faults_old faults_new denied_old denied_new (Unfinished published) = Rose faults_old faults_new ⊎ Rose denied_old denied_new

-- Since these counts, they rose where it ends otherwise than well, and where something was not swept.
pub record IsCausedSince (faults_old faults_new denied_old denied_new : ℕ) (outcome : Short) (swept : Bool) : Type 0 where
  pub faults : faults_old ≤ faults_new
  pub denied : denied_old ≤ denied_new
  pub ends : IsCaused faults_old faults_new denied_old denied_new outcome
  pub sweeps : swept ≡ false → Rose faults_old faults_new ⊎ Rose denied_old denied_new
