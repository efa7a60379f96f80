-- What lies under the lock, and what a writing job takes from there.
use Rattle.std.specs.List.{AllByRecursion}
use Rattle.std.specs.Prelude.{◌≡◌, ◌≤◌, ◌<◌, ℕ, Bool, false, List, [], ◌∷◌, ◌++◌, Option, length, slice_get, unwrap_or}
use Rattle.hgs_answers.specs.Answer.{answer_text, status_of}
use Rattle.hgs_files.specs.declared.op.Op.{Op}
use Rattle.hgs_model.specs.declared.command.Command.{Command}
use Rattle.hgs_script.specs.declared.result.Answered.{Answered}
use Rattle.hgs_script.specs.declared.result.PublishedJob.{PublishedJob}
use Rattle.hgs_session.specs.Calls.{AreInOrder, Beginning, Call, Makes, Stage, published_of, unsure_of}

-- Calls were made one after another; where none was lost, they are the history, and what is listed is what they published.
pub record HasMade (x : Beginning) (now : Stage) (history : List Call) (published : List PublishedJob) (unsure : Option (ℕ × ℕ)) (is_broken : Bool) : Type 0 where
  pub calls : List Call
  pub makes : Makes x calls now
  pub order : AreInOrder calls
  pub history_is : is_broken ≡ false → calls ≡ history
  pub published_is : is_broken ≡ false → published ≡ published_of calls
  pub unsure_is : is_broken ≡ false → unsure ≡ unsure_of calls

-- the first job of a worker that may still be done
abbrev pub next_of : List ℕ → ℕ → ℕ
next_of next worker = unwrap_or (slice_get next worker) 0

-- a worker may still do its job of this number
abbrev pub IsOpen : List ℕ → ℕ → ℕ → Type 0
IsOpen next worker job = (worker < length next) × (next_of next worker ≤ job)

-- each call's job is one that may be done no more
abbrev pub AreClosed : List ℕ → List Call → Type 0
AreClosed next calls = AllByRecursion (λ c. c.job < next_of next c.worker) calls

-- So it is of a desk that knows the next job of each worker.
pub record StandsAt (x : Beginning) (now : Stage) (history : List Call) (published : List PublishedJob) (unsure : Option (ℕ × ℕ)) (is_broken : Bool) (next : List ℕ) : Type 0 where
  pub made : HasMade x now history published unsure is_broken
  pub closed : AreClosed next made.calls

-- what a command that was called with this answer says
abbrev pub said_by : Command → Call → Answered
said_by command c = record { status = status_of c.answer.outcome; text = answer_text command c.answer }

-- The history ends with a call of this job, which answered so and led to this log.
pub record IsDone (worker job : ℕ) (command : Command) (log : Option (List Op)) (history : List Call) (answered : Answered) : Type 0 where
  pub before : List Call
  pub call : Call
  pub history_is : history ≡ before ++ call ∷ []
  pub worker_is : call.worker ≡ worker
  pub job_is : call.job ≡ job
  pub says : answered ≡ said_by command call
  pub log_is : call.log ≡ log
