use Rattle.std.proofs.Common.{◌≡◌, take}
use Rattle.hgs_files.specs.Files.{GoesOn}
use Rattle.hgs_machine.specs.Carry.{tree_now}
use Rattle.hgs_machine.specs.Locks.{CausesLeft, NeverFall}
use Rattle.hgs_recover.specs.Clearing.{ClearsEach}
use Rattle.hgs_recover.proofs.leftovers.clear_all.Given as goal

abbrev pub invariant-loop-path : goal.invariant-loop-path
invariant-loop-path g l = record {
  log : GoesOn (g.F.Files.log l.fn.files) (g.F.Files.log l.files) (ClearsEach (take l.path-index l.paths) (tree_now (g.F.Files.log l.fn.files) (g.F.Reads.start l.fn.files)) l.swept (g.F.Reads.faults l.fn.files) (g.F.Reads.faults l.files) (g.F.Reads.denied l.fn.files) (g.F.Reads.denied l.files));
  same_start : g.F.Reads.start l.files ≡ g.F.Reads.start l.fn.files;
  counts : NeverFall (g.F.Reads.faults l.fn.files) (g.F.Reads.faults l.files) (g.F.Reads.denied l.fn.files) (g.F.Reads.denied l.files);
  causes : CausesLeft (g.F.Reads.faults l.fn.files) (g.F.Reads.faults l.files) (g.F.Reads.denied l.fn.files) (g.F.Reads.denied l.files) l.swept;
}
