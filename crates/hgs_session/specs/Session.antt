-- What a session did, and what its result says of it.
use Rattle.std.specs.List.{AllByRecursion}
use Rattle.std.specs.Prelude.{◌≡◌, ℕ, suc, List, [], ◌∷◌, ◌++◌, length, fold, ◌+◌, All, Option, Some, None, Result, IfOk, IfSome, slice_get}
use Rattle.hgs_files.specs.declared.op.Op.{Op}
use Rattle.hgs_files.specs.declared.yard.Left.{Left}
use Rattle.hgs_files.specs.declared.yard.Left.TheVariants.{Whole, Parts}
use Rattle.hgs_files.specs.Ends.{EndsWithin, total_of}
use Rattle.hgs_files.specs.Reads.{counted}
use Rattle.hgs_files.specs.Ties.{Ties}
use Rattle.hgs_files.specs.Tree.{Tree, after_all}
use Rattle.hgs_script.specs.declared.job.Job.{Job}
use Rattle.hgs_script.specs.declared.result.Answered.{Answered}
use Rattle.hgs_script.specs.declared.result.SessionResult.{SessionResult}
use Rattle.hgs_session.specs.declared.session.NoResult.{NoResult}
use Rattle.hgs_session.specs.Calls.{AreInOrder, Beginning, Call, Makes, MayMake, Stage, one_if_change, published_of, unsure_of}
use Rattle.hgs_session.specs.Jobs.{HasDone, Progress}

-- how many of these jobs write
abbrev pub changes_among : List Job → ℕ
changes_among jobs = fold (λ n job. n + one_if_change job) 0 jobs

abbrev pub changes_in : List (List Job) → ℕ
changes_in workers = fold (λ n jobs. n + changes_among jobs) 0 workers

abbrev pub count_of : Option (List Job) → ℕ
count_of None = 0
count_of (Some jobs) = length jobs

-- What a reading end was told and has seen, and what it has counted.
pub record EndState : Type 0 where
  pub told : List (List Op)
  pub seen : Option (List Op)
  pub faults : ℕ
  pub denied : ℕ

abbrev pub state_of : Progress → EndState
state_of p = record { told = p.told; seen = p.seen; faults = p.faults; denied = p.denied }

-- All jobs of a worker were done and answered, and its reading end has come to this.
pub record HasEnded (x : Beginning) (worker : ℕ) (calls : List Call) (state : EndState) (answers : List Answered) : Type 0 where
  pub now : Progress
  pub done : HasDone x worker calls now answers
  pub all : now.done ≡ count_of (slice_get x.jobs worker)
  pub state_is : state_of now ≡ state

-- so it is of each worker from this number on, whose ends have come to these
abbrev pub EndedFrom : Beginning → ℕ → List Call → List EndState → List (List Answered) → Type 0
EndedFrom x worker calls [] [] = Unit {0}
EndedFrom x worker calls [] (answers ∷ replies) = ⊥
EndedFrom x worker calls (state ∷ states) [] = ⊥
EndedFrom x worker calls (state ∷ states) (answers ∷ replies) = HasEnded x worker calls state answers × EndedFrom x (suc worker) calls states replies

-- what an end saw and was told begins the log of the writing end
abbrev pub IsWithin : Option (List Op) → EndState → Type 0
IsWithin log state = EndsWithin log state.seen state.told

-- The writing jobs are these calls, as many as there are such jobs; listed are those that published; and each worker has an answer to
-- each of its jobs, and its reading end has come to its state.
pub record IsSession (x : Beginning) (calls : List Call) (last : Stage) (states : List EndState) (result : SessionResult) : Type 0 where
  pub all : length calls ≡ changes_in x.jobs
  pub published : result.published ≡ published_of calls
  pub unsure : result.unsure ≡ unsure_of calls
  pub workers : length result.replies ≡ length x.jobs
  pub replies : EndedFrom x 0 calls states result.replies
  pub within : AllByRecursion (IsWithin last.log) states

-- ---- the yard before and after

-- A reading end of a start: where the lists are told it has seen nothing from its tree, and was told nothing; and it has counted nothing.
abbrev pub IsNew : Option (List Op) → Tree → Option (List Op) → Tree → List (List Op) → ℕ → ℕ → Type 0
IsNew log start seen seen_start told faults denied = IfSome log (λ l. (seen ≡ Some []) × (told ≡ []) × (seen_start ≡ start)) × (faults ≡ 0) × (denied ≡ 0)

-- A writing end begins with nothing done, from the tree of the files at rest, where their log is told.
abbrev pub BeginsAt : Beginning → Option (List Op) → Tree → Type 0
BeginsAt x log start = IfSome log (λ old. (x.first.log ≡ Some []) × (x.start ≡ after_all old start))

-- A session begins over files with this log and these counts.
pub record BeginsOver (x : Beginning) (jobs : List (List Job)) (log : Option (List Op)) (start : Tree) (faults denied : ℕ) : Type 0 where
  pub jobs_are : x.jobs ≡ jobs
  pub log_is : BeginsAt x log start
  pub faults_are : x.first.faults ≡ faults
  pub denied_are : x.first.denied ≡ denied

-- the writing end takes whatever a session of these jobs may leave of the files
abbrev pub MayRun : List (List Job) → Option (List Op) → Tree → (Tree → List Op → Type 0) → Type 0
MayRun jobs log start allows = (x : Beginning) → x.jobs ≡ jobs → BeginsAt x log start → MayMake x allows

-- a writing end has come to this stage
abbrev pub IsAt : Stage → Option (List Op) → ℕ → ℕ → Type 0
IsAt stage log faults denied = (log ≡ stage.log) × (faults ≡ stage.faults) × (denied ≡ stage.denied)

-- the log at rest is the earlier one and then that of the writing end
abbrev pub RestsOn : Option (List Op) → Tree → Option (List Op) → Option (List Op) → Tree → Type 0
RestsOn None start wrote new new_start = Unit {0}
RestsOn (Some old) start wrote new new_start = IfSome wrote (λ more. (new ≡ Some (old ++ more)) × (new_start ≡ start))

-- a yard is left whole, of which this holds, or its writing end, of which that holds
abbrev pub LeftAs : {Y A Rest Front W R : Type 0} → Left Y A Rest Front W R → (Y → Type 0) → (W → Type 0) → Type 0
LeftAs (Whole yard) OfYard OfEnd = OfYard yard
LeftAs (Parts w rs) OfYard OfEnd = OfEnd w

abbrev pub IsWhole : {Y A Rest Front W R : Type 0} → Left Y A Rest Front W R → Type 0
IsWhole (Whole yard) = Unit {0}
IsWhole (Parts w rs) = ⊥

-- where the ends could not be put together, this holds of them
abbrev pub IfParts : {Y A Rest Front W R : Type 0} → Left Y A Rest Front W R → (W → List R → Type 0) → Type 0
IfParts (Whole yard) Holds = Unit {0}
IfParts (Parts w rs) Holds = Holds w rs.items

-- The reading ends are of the writing end's start, and that keeps this earlier log: so they may be put together yet.
abbrev pub AreOfStart : {R : Type 0} → Option (List Op) → Tree → Ties → (R → Ties) → List R → Type 0
AreOfStart earlier start lead ties rs = (lead.earlier ≡ earlier) × (lead.earlier_start ≡ start) × All (λ r. (ties r).home ≡ lead.home) rs

-- the same, where the log of the files at rest was told
abbrev pub AreOfOneStart : {R : Type 0} → Option (List Op) → Tree → Ties → (R → Ties) → List R → Type 0
AreOfOneStart log start lead ties rs = IfSome log (λ old. (lead.earlier ≡ Some old) × (lead.earlier_start ≡ start)) × All (λ r. (ties r).home ≡ lead.home) rs

-- the counts at rest are those of the writing end, and what the reading ends have counted
pub record AreCounted (last : Stage) (states : List EndState) (faults denied : ℕ) : Type 0 where
  pub faults_are : faults ≡ counted last.faults (total_of (λ (m : EndState). m.faults) states)
  pub denied_are : denied ≡ counted last.denied (total_of (λ (m : EndState). m.denied) states)

-- A result says what was done by these calls, by workers whose reading ends have come to states of which this holds.
pub record Tells (x : Beginning) (calls : List Call) (last : Stage) (IsCounted : Stage → List EndState → Type 0) (result : SessionResult) : Type 0 where
  pub states : List EndState
  pub is : IsSession x calls last states result
  pub counts : IsCounted last states

-- What a session leaves: writing jobs of the script were done one after another, those of each worker in their order and none twice,
-- which led to this log of what is left; and its result says so, where there is one.
pub record Comes (x : Beginning) (IsLeft : Stage → Type 0) (IsCounted : Stage → List EndState → Type 0) (result : Result SessionResult NoResult) : Type 0 where
  pub last : Stage
  pub calls : List Call
  pub makes : Makes x calls last
  pub order : AreInOrder calls
  pub left : IsLeft last
  pub told : IfOk result (λ r. Tells x calls last IsCounted r)
