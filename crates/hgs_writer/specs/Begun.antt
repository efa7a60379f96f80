-- What the beginning of a command leaves in the log of the files.
use Rattle.std.specs.Prelude.{◌≡◌, ℕ, List, ◌++◌, Ok, Err}
use Rattle.hgs_answers.specs.declared.answer.Answer.{Answer}
use Rattle.hgs_commit.specs.declared.fault.CommitFault.{CommitFault}
use Rattle.hgs_files.specs.declared.op.Op.{Op}
use Rattle.hgs_files.specs.Tree.{Tree, after_all}
use Rattle.hgs_machine.specs.Course.{lock_removals}
use Rattle.hgs_machine.specs.Locks.{AreLocked, AreRemoved, IsTurnedAway}
use Rattle.hgs_machine.specs.declared.locks.LockRefusal.{LockRefusal}
use Rattle.hgs_model.specs.declared.command.Command.{Command}
use Rattle.hgs_writer.specs.Outcomes.{outcome_of_commit, outcome_of_lock}
use Rattle.hgs_writer.specs.Planning.{Plans}
use Rattle.hgs_writer.specs.declared.begin.Begun.{Begun}
use Rattle.hgs_writer.specs.declared.begin.Begun.TheVariants.{Ready, Refused}
use Rattle.hgs_writer.specs.declared.plan.Planned.{Planned}

-- A command is refused with this answer: its locks were not taken; or they were, nothing was planned from the tree under them,
-- and they are released.
pub data IsRefused (who : List ℕ) (command : Command) (t : Tree) (answer : Answer) (done : List Op) : Type 0 where
  has_no_locks : (why : LockRefusal) → IsTurnedAway who t why answer.swept done → answer.outcome ≡ outcome_of_lock why → IsRefused who command t answer done
  has_no_plan : (fault : CommitFault) (locking releasing : List Op) → AreLocked who t locking → Plans command (after_all locking t) (Err fault) → AreRemoved lock_removals answer.swept releasing
      → answer.outcome ≡ outcome_of_commit fault → done ≡ locking ++ releasing → IsRefused who command t answer done

-- What was done to begin: both locks are made, and from the tree under them this is planned; or the command is refused.
abbrev pub Begins : List ℕ → Command → Tree → Begun → List Op → Type 0
Begins who command t (Ready planned) done = AreLocked who t done × Plans command (after_all done t) (Ok planned)
Begins who command t (Refused answer) done = IsRefused who command t answer done

-- this holds of what is planned
abbrev pub IfReady : Begun → (Planned → Type 0) → Type 0
IfReady (Ready planned) Holds = Holds planned
IfReady (Refused answer) Holds = Unit {0}

-- this holds of the answer that refuses
abbrev pub IfRefused : Begun → (Answer → Type 0) → Type 0
IfRefused (Ready planned) Holds = Unit {0}
IfRefused (Refused answer) Holds = Holds answer
