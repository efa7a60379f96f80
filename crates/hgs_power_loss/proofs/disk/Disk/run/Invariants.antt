use Rattle.std.proofs.Common.{◌≡◌, drop}
use Rattle.hgs_power.specs.Disk.{run}
use Rattle.hgs_power_loss.specs.InMemory.{disk_in}
use Rattle.hgs_power_loss.proofs.disk.Disk.run.Given as goal

abbrev pub invariant-loop-op : goal.invariant-loop-op
invariant-loop-op l = run (drop l.op-index l.log) (disk_in l.disk) ≡ run l.log (disk_in l.fn.self)
