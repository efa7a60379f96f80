-- What a call leaves in the log of the files, by its answer.
use Rattle.std.specs.Prelude.{◌≡◌, ℕ, List, ◌++◌, Option, Some, None, Ok, Err}
use Rattle.std.specs.Option.{ForSome}
use Rattle.hgs_answers.specs.declared.answer.Answer.{Answer}
use Rattle.hgs_commit.specs.declared.fault.CommitFault.{CommitFault}
use Rattle.hgs_files.specs.declared.op.Op.{Op}
use Rattle.hgs_files.specs.Tree.{Tree, after_all}
use Rattle.hgs_index.specs.declared.node.Node.{Node}
use Rattle.hgs_machine.specs.Course.{CarriedOut, lock_removals}
use Rattle.hgs_machine.specs.Locks.{AreLocked, AreRemoved, IsTurnedAway}
use Rattle.hgs_machine.specs.declared.ended.Short.{Short}
use Rattle.hgs_machine.specs.declared.locks.LockRefusal.{LockRefusal}
use Rattle.hgs_model.specs.declared.command.Command.{Command}
use Rattle.hgs_writer.specs.Outcomes.{outcome_of_commit, outcome_of_ended, outcome_of_lock}
use Rattle.hgs_writer.specs.Begun.{IsRefused}
use Rattle.hgs_writer.specs.Planning.{Plans}
use Rattle.hgs_writer.specs.declared.plan.Planned.{Planned}

-- A plan was carried out from this tree, and the answer says how it ended.
pub record IsCarriedOut (t : Tree) (planned : Planned) (answer : Answer) (done : List Op) : Type 0 where
  pub ended : Short
  pub carried : CarriedOut t planned.plan ended answer.swept done
  pub outcome : answer.outcome ≡ outcome_of_ended ended planned.rev planned.node

-- What a call did from the tree that it found, and how it answers: its locks were not taken; or they were, nothing was planned
-- from the tree under them, and they are released; or what was planned is carried out.
pub data IsWritten (who : List ℕ) (command : Command) (t : Tree) (answer : Answer) (done : List Op) : Type 0 where
  is_turned_away : (why : LockRefusal) → IsTurnedAway who t why answer.swept done → answer.outcome ≡ outcome_of_lock why → IsWritten who command t answer done
  is_not_planned : (fault : CommitFault) (locking releasing : List Op) → AreLocked who t locking → Plans command (after_all locking t) (Err fault) → AreRemoved lock_removals answer.swept releasing
      → answer.outcome ≡ outcome_of_commit fault → done ≡ locking ++ releasing → IsWritten who command t answer done
  is_carried_out : (planned : Planned) (locking carrying : List Op) → AreLocked who t locking → Plans command (after_all locking t) (Ok planned) → IsCarriedOut (after_all locking t) planned answer carrying
      → done ≡ locking ++ carrying → IsWritten who command t answer done

-- The same where the changeset is told that the transaction makes or names: none where the command was refused before it had a
-- plan, else that of the plan, however it ended.
pub data IsWrittenFor (who : List ℕ) (command : Command) (t : Tree) (answer : Answer) : Option (ℕ × Node) → List Op → Type 0 where
  has_no_plan : (done : List Op) → IsRefused who command t answer done → IsWrittenFor who command t answer None done
  has_plan : (planned : Planned) (locking carrying done : List Op) → AreLocked who t locking → Plans command (after_all locking t) (Ok planned) → IsCarriedOut (after_all locking t) planned answer carrying
      → done ≡ locking ++ carrying → IsWrittenFor who command t answer (Some (planned.rev, planned.node)) done

-- The files take whatever a call may leave from the tree now.
abbrev pub MayWrite : List ℕ → Command → Option (List Op) → (List Op → Type 0) → Tree → Type 0
MayWrite who command log allows start =
    ForSome log (λ l. (answer : Answer) (changeset : Option (ℕ × Node)) (done : List Op) → IsWrittenFor who command (after_all l start) answer changeset done → allows (l ++ done))
