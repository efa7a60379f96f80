-- The calls that the writing jobs of a session make, one after another.
use Rattle.std.specs.Prelude.{◌≡◌, ◌≤◌, ◌<◌, ℕ, Bool, true, false, List, [], ◌∷◌, ◌++◌, Option, Some, None, codes, decimal, flat_map, slice_get, fold, is_some, if◌then◌else◌}
use Rattle.std.specs.List.{AllByRecursion, FoldsTo}
use Rattle.hgs_answers.specs.declared.answer.Answer.{Answer}
use Rattle.hgs_answers.specs.declared.outcome.Outcome.{Outcome}
use Rattle.hgs_answers.specs.declared.outcome.Outcome.TheVariants.{Done, Fault, Unfinished}
use Rattle.hgs_answers.specs.declared.outcome.Published.TheVariants.{Yes, Unknown}
use Rattle.hgs_files.specs.declared.op.Op.{Op}
use Rattle.hgs_files.specs.Files.{GoesOn}
use Rattle.hgs_files.specs.Reads.{Rose}
use Rattle.hgs_files.specs.Tree.{Tree}
use Rattle.hgs_index.specs.declared.node.Node.{Node}
use Rattle.hgs_machine.specs.Carry.{tree_now}
use Rattle.hgs_machine.specs.Refusals.{WereRefused}
use Rattle.hgs_model.specs.declared.command.Command.{Command}
use Rattle.hgs_script.specs.declared.job.Job.{Job}
use Rattle.hgs_script.specs.declared.job.Job.TheVariants.{Change, Ask}
use Rattle.hgs_script.specs.declared.result.PublishedJob.{PublishedJob}
use Rattle.hgs_writer.specs.Refusals.{refusals_of, refusals_with}
use Rattle.hgs_writer.specs.Written.{IsWrittenFor}

-- ---- jobs

abbrev pub job_among : Option (List Job) → ℕ → Option Job
job_among None job = None
job_among (Some jobs) job = slice_get jobs job

-- the job of a worker, both by their numbers
abbrev pub job_in : List (List Job) → ℕ → ℕ → Option Job
job_in workers worker job = job_among (slice_get workers worker) job

-- what stands in the locks while a job writes
abbrev pub name_of : ℕ → ℕ → List ℕ
name_of worker job = codes "hg-store " ++ (decimal worker ++ 32 ∷ decimal job)

-- ---- calls

-- the log of the writing end, where it is told, and how often it has failed and found no memory
pub record Stage : Type 0 where
  pub log : Option (List Op)
  pub faults : ℕ
  pub denied : ℕ

-- the jobs of the workers, the tree that the log of the writing end starts from, and what that end begins with
pub record Beginning : Type 0 where
  pub jobs : List (List Job)
  pub start : Tree
  pub first : Stage

-- A writing job that was done: what it answered, the changeset that its transaction made or named, where one was planned, and the log
-- of the writing end behind it, where that is told.
pub record Call : Type 0 where
  pub worker : ℕ
  pub job : ℕ
  pub answer : Answer
  pub changeset : Option (ℕ × Node)
  pub log : Option (List Op)

-- A writing job of the script was done: its name stood in the locks, and the log went on by what its answer says. As many calls of the
-- writing end were refused as that answer tells of, and as it left files behind.
pub record IsCall (x : Beginning) (old : Stage) (c : Call) (new : Stage) : Type 0 where
  pub command : Command
  pub job : job_in x.jobs c.worker c.job ≡ Some (Change command)
  pub log : GoesOn old.log new.log (IsWrittenFor (name_of c.worker c.job) command (tree_now old.log x.start) c.answer c.changeset)
  pub behind : c.log ≡ new.log
  pub fault : c.answer.outcome ≡ Fault → Rose old.faults new.faults
  pub refused : WereRefused (refusals_of (is_some old.log) c.answer) old.faults new.faults old.denied new.denied
  pub left : GoesOn old.log new.log (λ done. WereRefused (refusals_with (is_some old.log) c.answer.outcome c.changeset (tree_now old.log x.start) done) old.faults new.faults old.denied new.denied)
  pub faults : old.faults ≤ new.faults
  pub denied : old.denied ≤ new.denied

-- these calls one after another
abbrev pub Makes : Beginning → List Call → Stage → Type 0
Makes x calls last = FoldsTo (IsCall x) x.first calls last

-- of the calls behind this one those of its worker are later jobs
abbrev pub IsBefore : Call → List Call → Type 0
IsBefore c calls = AllByRecursion (λ d. d.worker ≡ c.worker → c.job < d.job) calls

-- the jobs of each worker come in their order, and none twice
abbrev pub AreInOrder : List Call → Type 0
AreInOrder [] = Unit {0}
AreInOrder (c ∷ calls) = IsBefore c calls × AreInOrder calls

-- These calls lead to this log, where it is told.
pub record IsLedTo (x : Beginning) (log : List Op) : Type 0 where
  pub calls : List Call
  pub last : Stage
  pub makes : Makes x calls last
  pub order : AreInOrder calls
  pub told : last.log ≡ Some log

-- the files take each log to which such calls lead, whichever they are
abbrev pub MayMake : Beginning → (Tree → List Op → Type 0) → Type 0
MayMake x allows = (log : List Op) → ∥ IsLedTo x log ∥₁ → allows x.start log

-- ---- what was published

abbrev pub is_published : Outcome → Bool
is_published (Done rev node) = true
is_published (Unfinished Yes) = true
is_published _ = false

abbrev pub is_unsure : Outcome → Bool
is_unsure (Unfinished Unknown) = true
is_unsure _ = false

abbrev pub entry_of : ℕ → ℕ → Option (ℕ × Node) → List PublishedJob
entry_of worker job None = []
entry_of worker job (Some changeset) = record { worker = worker; job = job; rev = changeset.0; node = changeset.1 } ∷ []

-- the entry of a call that published its transaction, and nothing of another
abbrev pub published_by : Call → List PublishedJob
published_by c = if is_published c.answer.outcome then entry_of c.worker c.job c.changeset else []

abbrev pub published_of : List Call → List PublishedJob
published_of calls = flat_map published_by calls

-- the last call of which it is not known whether it published
abbrev pub unsure_with : Option (ℕ × ℕ) → Call → Option (ℕ × ℕ)
unsure_with known c = if is_unsure c.answer.outcome then Some (c.worker, c.job) else known

abbrev pub unsure_of : List Call → Option (ℕ × ℕ)
unsure_of calls = fold unsure_with None calls

-- ---- how many jobs write

abbrev pub one_if_change : Job → ℕ
one_if_change (Change command) = 1
one_if_change (Ask question) = 0
