use Rattle.std.proofs.Common.{◌≡◌}
use Rattle.hgs_mem.specs.Mem.{tree_of}
use Rattle.hgs_power_loss.specs.Left.{with_left}
use Rattle.hgs_power_loss.proofs.left.Left.put_all.Given as goal

abbrev pub invariant-loop-path : goal.invariant-loop-path
invariant-loop-path l = record {
  left : with_left l.keep l.fill l.path-iterator (tree_of l.self.files) ≡ with_left l.keep l.fill l.files.entries (tree_of l.fn.self.files);
  first : tree_of l.self.first.value ≡ tree_of l.fn.self.first.value;
}
