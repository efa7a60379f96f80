-- What the laws of the crates below say.
use Rattle.std.specs.Prelude.{◌≡◌, ◌⊎◌, ℕ, List, [], ◌++◌, true, false, Option, Some, None}
use Rattle.hgs_answers.specs.declared.answer.Answer.{Answer}
use Rattle.hgs_files.specs.declared.op.Op.{Op}
use Rattle.hgs_files.specs.Tree.{Tree, after_all}
use Rattle.hgs_index.specs.declared.node.Node.{Node}
use Rattle.hgs_journal.specs.Names.{journal_path}
use Rattle.hgs_legal.specs.LegalLog.{IsRun, State, current}
use Rattle.hgs_legal.specs.ListsPaths.{ListsPaths}
use Rattle.hgs_machine.specs.Asked.{asked}
use Rattle.hgs_machine.specs.Course.{CarriedOut}
use Rattle.hgs_machine.specs.Fed.{fed, is_published, new_machine}
use Rattle.hgs_machine.specs.Locks.{AreLocked}
use Rattle.hgs_machine.specs.Planned.{IsPlanned}
use Rattle.hgs_machine.specs.SoFar.{Fits, IsInPart, SoFar, Steps, stopped_as}
use Rattle.hgs_machine.specs.declared.machine.Machine.{Machine}
use Rattle.hgs_machine.specs.declared.machine.Reply.TheVariants.{Done, Failed, Size}
use Rattle.hgs_model.specs.Repo.{Repo}
use Rattle.hgs_model.specs.Valid.{IsValid}
use Rattle.hgs_model.specs.declared.command.Command.{Command}
use Rattle.hgs_ops.specs.Operations.{strays}
use Rattle.hgs_recover.specs.Found.{answer_in}
use Rattle.hgs_recover.specs.Recovering.{RecoversBy}
use Rattle.hgs_recover.specs.declared.answer.RecoverAnswer.TheVariants.{NothingToDo, Restored}
use Rattle.hgs_schedule.specs.Schedule.{CanCome}
use Rattle.hgs_schedule.specs.declared.event.Event.{Event}
use Rattle.hgs_stands.specs.Open.{IsOpen}
use Rattle.hgs_stands.specs.Stands.{IsClean, Stands}
use Rattle.hgs_transaction.specs.declared.assemble.Plan.{Plan}
use Rattle.hgs_writer.specs.Alone.{IsBarred}
use Rattle.hgs_writer.specs.Turns.{IsAtRest, LeadsAs, LeadsOn}
use Rattle.hgs_writer.specs.Written.{IsWrittenFor}
use Rattle.hgs_world.specs.Follows.{Keeps}
use Rattle.hgs_world.specs.Moments.{HasCome}
use Rattle.hgs_world.specs.Working.{Acts, HasBytes, RunsTo}
use Rattle.hgs_world.specs.World.{Happens, IsFirst, Scene}
use Rattle.hgs_world.specs.declared.working.Deed.{Deed}
use Rattle.hgs_world.specs.declared.working.Goal.{Goal}
use Rattle.hgs_world.specs.declared.working.Working.{Working}

-- of machines and writers at work
pub record Going : Type 0 where
  pub begins : (t : Tree) (plan : Plan) → IsPlanned t plan → SoFar t (new_machine plan) []
  pub sized : (m : Machine) (size : Option ℕ) → Steps m (Size size) (fed m (Size size))
  pub stop : (t : Tree) (m : Machine) (log more : List Op) → SoFar t m log → IsInPart (asked m) more → CarriedOut t m.plan (stopped_as m) false (log ++ more)
  pub published_done : (m : Machine) → is_published m ≡ true → is_published (fed m Done) ≡ true
  pub published_failed : (m : Machine) → is_published m ≡ true → is_published (fed m Failed) ≡ true
  pub published_sized : (m : Machine) (size : Option ℕ) → Fits (asked m) (Size size) → is_published m ≡ true → is_published (fed m (Size size)) ≡ true
  pub acts : (command : Command) (t : Tree) (w : Working) (done : List Op) (deed : Deed) (more : List Op) (after : Working) → HasCome command t w done → HasBytes deed → Acts deed (after_all done t) w more after → HasCome command t after (done ++ more)
  pub runs : (command : Command) (t : Tree) (w : Working) (done : List Op) (goal : Goal) (more : List Op) (after : Working) → HasCome command t w done → RunsTo goal (after_all done t) w more after → HasCome command t after (done ++ more)

-- of calls and recoveries
pub record Calling : Type 0 where
  pub files : (t : Tree) (r : Repo) (log : List Op) (s : State) → IsRun t r log s → s.files ≡ after_all log t
  pub stands : (t : Tree) (r : Repo) (log : List Op) (s : State) → Stands t r → IsRun t r log s → IsAtRest None s → Stands s.files (current s)
  pub journal : (t : Tree) (r : Repo) (log : List Op) (s : State) (left : List Op) → Stands t r → IsRun t r log s → IsAtRest (Some left) s → s.files journal_path ≡ None → ⊥
  pub own : (s : State) (command : Command) (who : List ℕ) (answer : Answer) (changeset : Option (ℕ × Node)) (done : List Op) → IsAtRest None s → Stands s.files (current s) → IsValid command → ListsPaths s.files (current s) → IsWrittenFor who command s.files answer changeset done
      → LeadsAs s done (record { who = who; command = command; changeset = changeset }) answer.outcome
  pub beside : (s : State) (left : Option (List Op)) (command : Command) (who : List ℕ) (answer : Answer) (changeset : Option (ℕ × Node)) (done : List Op) → IsAtRest left s → (s.files journal_path ≡ None → ⊥) → IsWrittenFor who command s.files answer changeset done → IsBarred answer.outcome × LeadsOn s done [] left
  pub no_journal : (who : List ℕ) (t : Tree) (locking : List Op) → AreLocked who t locking → t journal_path ≡ None
  pub lists : (t : Tree) (r next : Repo) (log : List Op) (s : State) → Stands t r → ListsPaths t r → IsRun t r log s → Stands (after_all log t) next ⊎ IsOpen strays (after_all log t) next → ListsPaths (after_all log t) next
  pub found_open : (t : Tree) (r : Repo) → IsOpen strays t r → answer_in t ≡ Restored
  pub cleans_open : (t : Tree) (r : Repo) (log : List Op) → IsOpen strays t r → RecoversBy t Restored true log → IsClean (after_all log t) r
  pub found_standing : (t : Tree) (r : Repo) → Stands t r → answer_in t ≡ NothingToDo
  pub cleans : (t : Tree) (r : Repo) (log : List Op) → Stands t r → RecoversBy t NothingToDo true log → IsClean (after_all log t) r
  pub first_keeps : (readers : ℕ) (s : Scene) → IsFirst readers s → Keeps s
  pub happens_keep : (readers : ℕ) (event : Event) (old new : Scene) (text : List ℕ) → CanCome readers event → Keeps old → Happens event old new text → Keeps new

pub record Laws : Type 0 where
  pub going : Going
  pub calling : Calling
