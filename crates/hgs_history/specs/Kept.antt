-- What a session's result says, over the log that its calls made: all of it together.
use Rattle.std.specs.Prelude.{◌≡◌, ℕ, suc, List, [], ◌∷◌, ◌++◌, Some}
use Rattle.std.specs.List.{AllByRecursion, FoldsTo}
use Rattle.hgs_bytes.specs.Bytes.{IsPrefixOf}
use Rattle.hgs_files.specs.Tree.{after_all}
use Rattle.hgs_files.specs.declared.op.Op.{Op}
use Rattle.hgs_headline.specs.WritersLog.{WritersLog, course_of, state_after}
use Rattle.hgs_legal.specs.ListsPaths.{ListsOnlyPaths}
use Rattle.hgs_legal.specs.LegalLog.{IsLegal}
use Rattle.hgs_model.specs.Repo.{Repo}
use Rattle.hgs_script.specs.declared.result.Answered.{Answered}
use Rattle.hgs_script.specs.declared.result.SessionResult.{SessionResult}
use Rattle.hgs_session.specs.Calls.{Beginning, Call, Makes, Stage}
use Rattle.hgs_session.specs.Jobs.{DoesJob, IsFresh, Progress}
use Rattle.hgs_views.specs.Course.{OpensAlong, ReadsAlong}
use Rattle.hgs_views.specs.Seen.{Numbers}
use Rattle.hgs_history.specs.History.{ArePublished, IsBehind, IsMadeAt, stage_behind}
use Rattle.hgs_history.specs.Once.{AreCallsFrom, IsListed}
use Rattle.hgs_history.specs.Workers.{GoesBeside}

-- A worker begins with nothing and does all its jobs with these answers; its questions are answered of views that never fall back.
pub record NeverFallsBack (h : WritersLog) (x : Beginning) (worker : ℕ) (calls : List Call) (answers : List Answered) : Type 0 where
  pub first : Progress
  pub last : Progress
  pub before : Numbers
  pub after : Numbers
  pub fresh : IsFresh x first
  pub does : FoldsTo (DoesJob x worker calls) first answers last
  pub goes : FoldsTo (GoesBeside h x.jobs worker) (first, before) answers (last, after)

-- so it is of each worker from this number on
abbrev pub NoneFallsBack : WritersLog → Beginning → ℕ → List Call → List (List Answered) → Type 0
NoneFallsBack h x worker calls [] = Unit {0}
NoneFallsBack h x worker calls (answers ∷ replies) = NeverFallsBack h x worker calls answers × NoneFallsBack h x (suc worker) calls replies

-- The log is one that writers make from the repository, and legal. What is published is what is listed, and at most the job that is
-- called unsure; each job that writes is one call, in its worker's order, each call is made over the repository behind those before it,
-- and behind each the log has what they list. The tree behind the log lists only
-- names of paths. Within the limits no worker falls back.
pub record KeepsHistory (x : Beginning) (r : Repo) (calls : List Call) (last : Stage) (makes : Makes x calls last) (result : SessionResult) : Type 0 where
  pub log : WritersLog
  pub start : log.start ≡ x.start
  pub first : log.first ≡ r
  pub told : last.log ≡ Some log.log
  pub legal : IsLegal x.start log.log
  pub published : ArePublished x.jobs result.published result.unsure log.last.published
  pub once : AreCallsFrom x.jobs 0 calls result.replies
  pub listed : AllByRecursion IsListed calls
  pub behind : (front back : List Call) → calls ≡ front ++ back → (done : List Op) × ((stage_behind x x.first calls last makes front).log ≡ Some done) × IsPrefixOf done log.log × IsBehind x.jobs front (state_after log done)
  pub made : (front back : List Call) (c : Call) → calls ≡ front ++ c ∷ back → (done : List Op) × ((stage_behind x x.first calls last makes front).log ≡ Some done) × IsPrefixOf done log.log × IsMadeAt x.jobs c (state_after log done)
  pub lists : ListsOnlyPaths (after_all log.log x.start)
  pub asked : OpensAlong (course_of log) [] log.log → ReadsAlong (course_of log) [] log.log → NoneFallsBack log x 0 calls result.replies
