-- A writer at any moment of its work.
use Rattle.std.specs.Prelude.{◌≡◌, List, ◌++◌, Ok}
use Rattle.hgs_files.specs.declared.op.Op.{Op}
use Rattle.hgs_files.specs.Tree.{Tree, after_all}
use Rattle.hgs_machine.specs.Asked.{asked}
use Rattle.hgs_machine.specs.Locks.{AreLocked}
use Rattle.hgs_machine.specs.SoFar.{SoFar}
use Rattle.hgs_model.specs.declared.command.Command.{Command}
use Rattle.hgs_writer.specs.Planning.{Plans}
use Rattle.hgs_writer.specs.declared.plan.Planned.{Planned}
use Rattle.hgs_world.specs.Working.{IsBegun}
use Rattle.hgs_world.specs.World.{who}
use Rattle.hgs_world.specs.declared.working.Working.{Working}

-- From this tree a writer carries out this plan and has done all this; of its next operation a part may be done.
pub record HasWorked (t : Tree) (planned : Planned) (w : Working) (done : List Op) : Type 0 where
  pub plan : w.machine.plan ≡ planned.plan
  pub rev : w.rev ≡ planned.rev
  pub node : w.node ≡ planned.node
  pub log : List Op
  pub begun : List Op
  pub so_far : SoFar t w.machine log
  pub is_begun : IsBegun (asked w.machine) w.part begun
  pub whole : done ≡ log ++ begun

-- A writer found this tree when it began with a command. It took its locks and planned, and this is all that it has done.
pub record HasCome (command : Command) (t : Tree) (w : Working) (done : List Op) : Type 0 where
  pub planned : Planned
  pub locking : List Op
  pub working : List Op
  pub locked : AreLocked who t locking
  pub plans : Plans command (after_all locking t) (Ok planned)
  pub worked : HasWorked (after_all locking t) planned w working
  pub whole : done ≡ locking ++ working
