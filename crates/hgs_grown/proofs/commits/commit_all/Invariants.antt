use Rattle.std.proofs.Common.{◌≡◌, ◌≤◌, ◌-◌, Some}
use Rattle.hgs_files.specs.Files.{GoesOn}
use Rattle.hgs_machine.specs.Carry.{tree_now}
use Rattle.hgs_machine.specs.Refusals.{WereRefused, refusals_of_left}
use Rattle.hgs_grown.specs.Grown.{AreCommitted}
use Rattle.hgs_grown.proofs.commits.commit_all.Given as goal

abbrev pub invariant-loop-growing : goal.invariant-loop-growing
invariant-loop-growing g l = record {
  seed : l.growing.seed ≡ l.seed;
  within : l.growing.generator.made ≤ l.count;
  log : GoesOn (g.F.Files.log l.fn.store) (g.F.Files.log l.store) (AreCommitted l.who l.seed (tree_now (g.F.Files.log l.fn.store) (g.F.Reads.start l.fn.store)) l.growing.generator.made (Some l.last));
  later : g.F.Reads.faults l.fn.store ≤ g.F.Reads.faults l.store;
  left : WereRefused (refusals_of_left l.last.swept) (g.F.Reads.faults l.fn.store) (g.F.Reads.faults l.store) (g.F.Reads.denied l.fn.store) (g.F.Reads.denied l.store);
  same_start : g.F.Reads.start l.store ≡ g.F.Reads.start l.fn.store;
}

abbrev pub decreases-loop-growing : goal.decreases-loop-growing
decreases-loop-growing g l = l.count - l.growing.generator.made
