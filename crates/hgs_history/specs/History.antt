-- Whose transactions the log of a session's writing end publishes.
use Rattle.std.specs.Prelude.{◌≡◌, ◌⊎◌, ℕ, Bool, true, false, List, [], ◌∷◌, ◌++◌, Option, Some, None, Result, Err, fold}
use Rattle.std.specs.List.{FoldsTo}
use Rattle.hgs_answers.specs.declared.outcome.Outcome.{Outcome}
use Rattle.hgs_answers.specs.declared.outcome.Outcome.TheVariants.{Abandoned, CopyOver, Done, LockHeld, NeedsForce, NothingChanged, UnknownPath, UnknownRevision}
use Rattle.hgs_files.specs.declared.op.Op.{Op}
use Rattle.hgs_journal.specs.Names.{journal_path}
use Rattle.hgs_legal.specs.LegalLog.{State, Turn, current}
use Rattle.hgs_legal.specs.Numbers.{acknowledged_of, b_of, n_of, w_of}
use Rattle.hgs_model.specs.Step.{Next, step}
use Rattle.hgs_model.specs.declared.command.Refusal.{Refusal}
use Rattle.hgs_model.specs.declared.command.Refusal.TheVariants as refusals
use Rattle.hgs_model.specs.declared.command.Command.{Command}
use Rattle.hgs_script.specs.declared.job.Job.{Job}
use Rattle.hgs_script.specs.declared.job.Job.TheVariants.{Change}
use Rattle.hgs_script.specs.declared.result.PublishedJob.{PublishedJob}
use Rattle.hgs_session.specs.Calls.{Beginning, Call, IsCall, Stage, job_in, name_of, published_of, unsure_of}
use Rattle.hgs_writer.specs.Made.{HasNoLocks}
use Rattle.hgs_writer.specs.Alone.{IsBarred, IsOutcomeOf, ReadsWithin}
use Rattle.hgs_writer.specs.Limits.{LoadsWithin}
use Rattle.hgs_writer.specs.Written.{IsWrittenFor}

-- ---- transactions of jobs

-- The transaction of a job: the job's name stood in the locks, and it was made by the job's command.
pub record IsTurnOfJob (jobs : List (List Job)) (worker job : ℕ) (x : Turn) : Type 0 where
  pub who : x.who ≡ name_of worker job
  pub command : job_in jobs worker job ≡ Some (Change x.command)

-- The transaction of a job that is listed with this changeset.
pub record IsTurnOfEntry (jobs : List (List Job)) (e : PublishedJob) (x : Turn) : Type 0 where
  pub job : IsTurnOfJob jobs e.worker e.job x
  pub rev : e.rev ≡ x.answer.rev
  pub node : e.node.0 ≡ x.answer.node

-- one transaction for each entry, in their order
abbrev pub AreTurnsOf : List (List Job) → List PublishedJob → List Turn → Type 0
AreTurnsOf jobs [] turns = turns ≡ []
AreTurnsOf jobs (e ∷ entries) [] = ⊥
AreTurnsOf jobs (e ∷ entries) (x ∷ turns) = IsTurnOfEntry jobs e x × AreTurnsOf jobs entries turns

-- the transaction of a job of which it is not known whether it published one, or none
abbrev pub MayBeTurnOf : List (List Job) → Option (ℕ × ℕ) → List Turn → Type 0
MayBeTurnOf jobs None turns = turns ≡ []
MayBeTurnOf jobs (Some job) turns = (turns ≡ []) ⊎ ((x : Turn) × (turns ≡ x ∷ []) × IsTurnOfJob jobs job.0 job.1 x)

-- What is listed was published, in that order; behind it at most the transaction of the job of which that is not known.
pub record ArePublished (jobs : List (List Job)) (entries : List PublishedJob) (unsure : Option (ℕ × ℕ)) (turns : List Turn) : Type 0 where
  pub sure : List Turn
  pub more : List Turn
  pub whole : turns ≡ sure ++ more
  pub listed : AreTurnsOf jobs entries sure
  pub unknown : MayBeTurnOf jobs unsure more

-- ---- behind calls

abbrev pub is_done : Outcome → Bool
is_done (Done rev node) = true
is_done _ = false

-- the last call is done
abbrev pub is_last_done : List Call → Bool
is_last_done calls = fold (λ before c. is_done c.answer.outcome) false calls

-- The log behind these calls publishes what they list. Where the last one is done, its bookmarks and working parents are as new as
-- its changesets, and all of it is acknowledged.
pub record IsBehind (jobs : List (List Job)) (calls : List Call) (s : State) : Type 0 where
  pub published : ArePublished jobs (published_of calls) (unsure_of calls) s.published
  pub marked : is_last_done calls ≡ true → b_of s ≡ n_of s
  pub worked : is_last_done calls ≡ true → w_of s ≡ n_of s
  pub acknowledged : is_last_done calls ≡ true → acknowledged_of s ≡ n_of s

-- where a call is refused as its command is, that is what the repository makes of the command
abbrev pub IsRefusedBy : Result Next Refusal → Outcome → Type 0
IsRefusedBy stepped UnknownRevision = stepped ≡ Err refusals.UnknownRevision
IsRefusedBy stepped UnknownPath = stepped ≡ Err refusals.UnknownPath
IsRefusedBy stepped (CopyOver path) = stepped ≡ Err (refusals.CopyOver path)
IsRefusedBy stepped (NeedsForce rev) = stepped ≡ Err (refusals.NeedsForce rev)
IsRefusedBy stepped (NothingChanged rev) = stepped ≡ Err (refusals.NothingChanged rev)
IsRefusedBy stepped outcome = Unit {0}

-- A call from this state of the log, for the command of its job. A refusal of that is the one of the repository there. Within the limits
-- it comes to what that makes of the command, or a journal stands and bars it. A lock is held only where one stands, and
-- a transaction is abandoned only where a journal stands. Every other answer has the cause in these files that a call has which is alone.
pub record IsMadeAt (jobs : List (List Job)) (c : Call) (s : State) : Type 0 where
  pub command : Command
  pub job : job_in jobs c.worker c.job ≡ Some (Change command)
  pub done : List Op
  pub does : IsWrittenFor (name_of c.worker c.job) command s.files c.answer c.changeset done
  pub refusal : IsRefusedBy (step (current s) command) c.answer.outcome
  pub outcome : LoadsWithin s.files (current s) → ReadsWithin s.files (current s) command → IsOutcomeOf s.files (current s) command (step (current s) command) c.answer.outcome ⊎ ((s.files journal_path ≡ None → ⊥) × IsBarred c.answer.outcome)
  pub held : (holder : Option (List ℕ)) → c.answer.outcome ≡ LockHeld holder → HasNoLocks s.files → ⊥
  pub abandoned : c.answer.outcome ≡ Abandoned → s.files journal_path ≡ None → ⊥

-- ---- the stages between calls

-- The stage behind a front of calls; behind a longer list the last one.
abbrev pub stage_behind : (x : Beginning) (old : Stage) (calls : List Call) (last : Stage) → FoldsTo (IsCall x) old calls last → List Call → Stage
stage_behind x old [] last makes front = old
stage_behind x old (c ∷ calls) last makes [] = old
stage_behind x old (c ∷ calls) last makes (d ∷ front) = stage_behind x makes.0 calls last makes.2 front
