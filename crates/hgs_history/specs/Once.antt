-- Each writing job of a session is one of its calls, and what failed was counted.
use Rattle.std.specs.Prelude.{◌≡◌, ℕ, suc, ◌==◌, ◌||◌, true, List, [], ◌∷◌, Some, filter, sum_by, if◌then◌else◌}
use Rattle.hgs_answers.specs.declared.outcome.Outcome.{Outcome}
use Rattle.hgs_answers.specs.declared.outcome.Outcome.TheVariants.{Abandoned, Fault, LockHeld, Unfinished}
use Rattle.hgs_files.specs.declared.op.Op.{Op}
use Rattle.hgs_files.specs.Tree.{Tree, after_all}
use Rattle.hgs_index.specs.declared.node.Node.{Node}
use Rattle.hgs_model.specs.Repo.{Repo}
use Rattle.hgs_model.specs.declared.command.Command.{Command}
use Rattle.hgs_writer.specs.Made.{HasNoLocks}
use Rattle.hgs_script.specs.declared.job.Job.{Job}
use Rattle.hgs_script.specs.declared.job.Job.TheVariants.{Ask, Change}
use Rattle.hgs_script.specs.declared.job.Question.{Question}
use Rattle.hgs_script.specs.declared.result.Answered.{Answered}
use Rattle.hgs_session.specs.Calls.{Call, Stage, entry_of, is_published, job_in, published_by}
use Rattle.hgs_session.specs.Desk.{said_by}
use Rattle.hgs_stands.specs.Stands.{Stands}

-- the calls of a worker, in their order
abbrev pub calls_by : ℕ → List Call → List Call
calls_by worker calls = filter (λ (c : Call). c.worker == worker) calls

-- a call whose transaction was published is listed, with a changeset
abbrev pub IsListed : Call → Type 0
IsListed c = is_published c.answer.outcome ≡ true → (changeset : ℕ × Node) × (published_by c ≡ entry_of c.worker c.job (Some changeset))

-- A worker's answers, from the job of this number on, are those of these calls: one for each job that writes, in their order.
pub data AreCallsOf (jobs : List (List Job)) (worker : ℕ) : ℕ → List Answered → List Call → Type 0 where
  none_left : (job : ℕ) → AreCallsOf jobs worker job [] []
  was_made : (job : ℕ) (command : Command) (answered : Answered) (answers : List Answered) (call : Call) (calls : List Call) → job_in jobs worker job ≡ Some (Change command) → call.worker ≡ worker → call.job ≡ job → answered ≡ said_by command call
      → AreCallsOf jobs worker (suc job) answers calls → AreCallsOf jobs worker job (answered ∷ answers) (call ∷ calls)
  was_asked : (job : ℕ) (question : Question) (answered : Answered) (answers : List Answered) (calls : List Call) → job_in jobs worker job ≡ Some (Ask question)
      → AreCallsOf jobs worker (suc job) answers calls → AreCallsOf jobs worker job (answered ∷ answers) calls

-- so it is of each worker from this number on
abbrev pub AreCallsFrom : List (List Job) → ℕ → List Call → List (List Answered) → Type 0
AreCallsFrom jobs worker calls [] = Unit {0}
AreCallsFrom jobs worker calls (answers ∷ replies) = AreCallsOf jobs worker 0 answers (calls_by worker calls) × AreCallsFrom jobs (suc worker) calls replies

-- ---- what failed

-- the status tells of a fault
abbrev pub one_if_faulted : ℕ → ℕ
one_if_faulted status = if status == 16 then 1 else 0

-- it tells of a fault or of a transaction that is left unfinished
abbrev pub one_if_failed : ℕ → ℕ
one_if_failed status = if status == 16 || status == 17 then 1 else 0

-- how many answers are such
abbrev pub how_many : (ℕ → ℕ) → List (List Answered) → ℕ
how_many one_if replies = sum_by (λ answers. sum_by (λ (a : Answered). one_if a.status) answers) replies

-- ---- where nothing failed

-- no lock was held, no transaction was found abandoned or left unfinished, and no fault was met
abbrev pub IsUnharmedOutcome : Outcome → Type 0
IsUnharmedOutcome (LockHeld holder) = ⊥
IsUnharmedOutcome Abandoned = ⊥
IsUnharmedOutcome Fault = ⊥
IsUnharmedOutcome (Unfinished published) = ⊥
IsUnharmedOutcome _ = Unit {0}

-- nor was a file left behind
abbrev pub IsUnharmed : Call → Type 0
IsUnharmed c = IsUnharmedOutcome c.answer.outcome × (c.answer.swept ≡ true)

-- The log is told to this place, where the files stand for a repository, with no lock.
pub record IsCleanAt (start : Tree) (stage : Stage) : Type 0 where
  pub log : List Op
  pub told : stage.log ≡ Some log
  pub repository : Repo
  pub stands : Stands (after_all log start) repository
  pub no_locks : HasNoLocks (after_all log start)
