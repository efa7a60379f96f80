-- What a command came to.
use Rattle.std.specs.Prelude.{ℕ}
use Rattle.hgs_answers.specs.declared.outcome.Outcome.{Outcome}
use Rattle.hgs_answers.specs.declared.outcome.Outcome.TheVariants as outcomes
use Rattle.hgs_answers.specs.declared.outcome.Published.{Published}
use Rattle.hgs_answers.specs.declared.outcome.Published.TheVariants as told
use Rattle.hgs_commit.specs.declared.fault.CommitFault.{CommitFault}
use Rattle.hgs_commit.specs.declared.fault.CommitFault.TheVariants as commits
use Rattle.hgs_index.specs.declared.node.Node.{Node}
use Rattle.hgs_machine.specs.declared.ended.Published.{Published as EndedPublished}
use Rattle.hgs_machine.specs.declared.ended.Published.TheVariants as ended
use Rattle.hgs_machine.specs.declared.ended.Short.{Short}
use Rattle.hgs_machine.specs.declared.ended.Short.TheVariants as shorts
use Rattle.hgs_machine.specs.declared.locks.LockRefusal.{LockRefusal}
use Rattle.hgs_machine.specs.declared.locks.LockRefusal.TheVariants as locked
use Rattle.hgs_model.specs.declared.command.Refusal.{Refusal}
use Rattle.hgs_model.specs.declared.command.Refusal.TheVariants as refusals
use Rattle.hgs_load.specs.declared.answer.ReadAnswer.{ReadAnswer}
use Rattle.hgs_load.specs.declared.answer.ReadAnswer.TheVariants as reads
use Rattle.hgs_steps.specs.declared.fault.PlanFault.{PlanFault}
use Rattle.hgs_steps.specs.declared.fault.PlanFault.TheVariants as plans

-- by what could not be read
abbrev pub outcome_of_read : ReadAnswer → Outcome
outcome_of_read (reads.Damaged damage) = outcomes.Damaged damage
outcome_of_read reads.Fault = outcomes.Fault
outcome_of_read (reads.Limit which) = outcomes.Limit which
outcome_of_read _ = outcomes.Memory

-- by the refusal of the command
abbrev pub outcome_of_refusal : Refusal → Outcome
outcome_of_refusal refusals.UnknownRevision = outcomes.UnknownRevision
outcome_of_refusal refusals.UnknownPath = outcomes.UnknownPath
outcome_of_refusal (refusals.CopyOver path) = outcomes.CopyOver path
outcome_of_refusal (refusals.NeedsForce rev) = outcomes.NeedsForce rev
outcome_of_refusal (refusals.NothingChanged rev) = outcomes.NothingChanged rev

-- by what keeps its step from being planned
abbrev pub outcome_of_plan : PlanFault → Outcome
outcome_of_plan (plans.Refused refusal) = outcome_of_refusal refusal
outcome_of_plan (plans.Limit which) = outcomes.Limit which
outcome_of_plan (plans.NameClash other) = outcomes.NameClash other
outcome_of_plan (plans.InTheWay path) = outcomes.InTheWay path
outcome_of_plan (plans.Collision path rev) = outcomes.Collision path rev
outcome_of_plan plans.Memory = outcomes.Memory

abbrev pub outcome_of_commit : CommitFault → Outcome
outcome_of_commit (commits.Unread refusal) = outcome_of_read refusal
outcome_of_commit (commits.Refused fault) = outcome_of_plan fault

abbrev pub published_of : EndedPublished → Published
published_of ended.No = told.No
published_of ended.Yes = told.Yes
published_of ended.Unknown = told.Unknown

-- by how its transaction ended
abbrev pub outcome_of_ended : Short → ℕ → Node → Outcome
outcome_of_ended shorts.Done rev node = outcomes.Done rev node
outcome_of_ended shorts.Fault rev node = outcomes.Fault
outcome_of_ended (shorts.Unfinished published) rev node = outcomes.Unfinished (published_of published)
outcome_of_ended shorts.Memory rev node = outcomes.Memory

-- by why the locks were not taken
abbrev pub outcome_of_lock : LockRefusal → Outcome
outcome_of_lock (locked.Held holder) = outcomes.LockHeld holder
outcome_of_lock locked.Abandoned = outcomes.Abandoned
outcome_of_lock locked.Fault = outcomes.Fault
outcome_of_lock locked.Memory = outcomes.Memory
