-- How the jobs of a worker were answered.
use Rattle.std.specs.Prelude.{◌≡◌, ◌≤◌, ℕ, suc, List, [], ◌∷◌, Option, Some, None, IfSome, slice_get}
use Rattle.std.specs.List.{FoldsTo}
use Rattle.hgs_files.specs.declared.op.Op.{Op}
use Rattle.hgs_files.specs.Reads.{Grows, Rose}
use Rattle.hgs_files.specs.Tree.{Tree}
use Rattle.hgs_load.specs.View.{View}
use Rattle.hgs_model.specs.declared.command.Command.{Command}
use Rattle.hgs_questions.specs.Asked.{Asked}
use Rattle.hgs_questions.specs.Said.{IsStatus}
use Rattle.hgs_script.specs.declared.job.Job.TheVariants.{Change, Ask}
use Rattle.hgs_script.specs.declared.job.Question.{Question}
use Rattle.hgs_script.specs.declared.result.Answered.{Answered}
use Rattle.hgs_session.specs.Calls.{Beginning, Call, job_in}
use Rattle.hgs_session.specs.Desk.{said_by}

-- How far a worker has come: how many of its jobs are done, how long the history was when its last writing job had ended, what its
-- reading end was told and has seen, from which tree, what it has loaded, and what that end has counted.
pub record Progress : Type 0 where
  pub done : ℕ
  pub place : ℕ
  pub told : List (List Op)
  pub seen : Option (List Op)
  pub start : Tree
  pub view : Option View
  pub faults : ℕ
  pub denied : ℕ

-- a worker that has done nothing; where the lists are told, its end has seen nothing and was told nothing
pub record IsFresh (x : Beginning) (p : Progress) : Type 0 where
  pub done : p.done ≡ 0
  pub place : p.place ≡ 0
  pub view : p.view ≡ None
  pub faults : p.faults ≡ 0
  pub denied : p.denied ≡ 0
  pub seen : IfSome x.first.log (λ log. (p.seen ≡ Some []) × (p.told ≡ []) × (p.start ≡ x.start))

-- told of one list more, where that is told
abbrev pub told_more : Option (List Op) → List (List Op) → List (List Op)
told_more None told = told
told_more (Some log) told = log ∷ told

-- after a writing job that was the history's call of this number
abbrev pub changed : Progress → ℕ → Option (List Op) → Progress
changed p n log = record p { done = suc p.done; place = suc n; told = told_more log p.told }

-- A worker's next job was done and answered, by this history or one that it begins. A job that writes is a call of the history, behind
-- each before it, and what it says is that call's; the worker learns the log behind that call. A question is answered of what the
-- worker loads, and nothing older than what it was told; what its end has seen goes on from what that saw before, and a fault is one
-- that its end has counted.
pub data DoesJob (x : Beginning) (worker : ℕ) (calls : List Call) (p : Progress) (answered : Answered) : Progress → Type 0 where
  changes : (command : Command) (call : Call) (n : ℕ) → job_in x.jobs worker p.done ≡ Some (Change command) → p.place ≤ n → slice_get calls n ≡ Some call → call.worker ≡ worker → call.job ≡ p.done
      → answered ≡ said_by command call → DoesJob x worker calls p answered (changed p n call.log)
  asks : (question : Question) (q : Progress) → job_in x.jobs worker p.done ≡ Some (Ask question) → Asked p.told p.seen p.start q.seen p.view q.view question p.faults q.faults answered → Grows p.seen q.seen
      → q.done ≡ suc p.done → q.place ≡ p.place → q.told ≡ p.told → q.start ≡ p.start → p.faults ≤ q.faults → p.denied ≤ q.denied
      → IsStatus answered.status → (answered.status ≡ 16 → Rose p.faults q.faults) → DoesJob x worker calls p answered q

-- A worker has done so many jobs, with these answers in their order.
pub record HasDone (x : Beginning) (worker : ℕ) (calls : List Call) (now : Progress) (answers : List Answered) : Type 0 where
  pub first : Progress
  pub fresh : IsFresh x first
  pub does : FoldsTo (DoesJob x worker calls) first answers now
