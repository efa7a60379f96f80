-- How a worker's jobs are answered, one after another, while other workers write.
use Rattle.std.specs.Prelude.{◌≡◌, ℕ, List, Some, IfSome}
use Rattle.hgs_history.specs.Beside.{IsAnsweredOf, IsKnown, IsNotLoaded}
use Rattle.hgs_files.specs.Reads.{Rose}
use Rattle.hgs_files.specs.declared.op.Op.{Op}
use Rattle.hgs_headline.specs.WritersLog.{WritersLog}
use Rattle.hgs_model.specs.declared.command.Command.{Command}
use Rattle.hgs_script.specs.declared.job.Job.{Job}
use Rattle.hgs_script.specs.declared.job.Job.TheVariants.{Ask, Change}
use Rattle.hgs_script.specs.declared.job.Question.{Question}
use Rattle.hgs_script.specs.declared.result.Answered.{Answered}
use Rattle.hgs_session.specs.Calls.{job_in}
use Rattle.hgs_session.specs.Jobs.{Progress}
use Rattle.hgs_views.specs.Seen.{Numbers}

-- What is known of a worker between jobs: what its end has seen, and the numbers of its view, where it has one.
pub record Knows (h : WritersLog) (p : Progress) (v : Numbers) : Type 0 where
  pub seen : List Op
  pub seen_is : p.seen ≡ Some seen
  pub start : p.start ≡ h.start
  pub view : IfSome p.view (IsKnown h seen v)

-- A job of the worker: one that writes leaves its view; a question is answered of a view that is loaded for it, whose numbers are
-- kept; or it finds none, and says of a fault, which its end has counted, or of no memory.
pub data GoesOn (h : WritersLog) (jobs : List (List Job)) (worker : ℕ) (p : Progress) (v : Numbers) (answered : Answered) (q : Progress) (w : Numbers) : Type 0 where
  wrote : (command : Command) → job_in jobs worker p.done ≡ Some (Change command) → q.view ≡ p.view → w ≡ v → GoesOn h jobs worker p v answered q w
  was_answered : (question : Question) (first last : List Op) → job_in jobs worker p.done ≡ Some (Ask question) → p.seen ≡ Some first → q.seen ≡ Some last
      → (a : IsAnsweredOf h p.told first last p.view v q.view question p.faults q.faults answered) → w ≡ a.numbers → GoesOn h jobs worker p v answered q w
  was_refused : (question : Question) → job_in jobs worker p.done ≡ Some (Ask question) → IsNotLoaded p.view q.view answered → (answered.status ≡ 16 → Rose p.faults q.faults) → w ≡ v → GoesOn h jobs worker p v answered q w

abbrev pub GoesBeside : WritersLog → List (List Job) → ℕ → (Progress × Numbers) → Answered → (Progress × Numbers) → Type 0
GoesBeside h jobs worker p answered q = GoesOn h jobs worker p.0 p.1 answered q.0 q.1
