use Rattle.std.proofs.Common.{◌≡◌, drop}
use Rattle.hgs_mem.specs.Mem.{tree_of}
use Rattle.hgs_power_loss.specs.Left.{tree_after_all}
use Rattle.hgs_power_loss.proofs.left.Left.change_all.Given as goal

abbrev pub invariant-loop-change : goal.invariant-loop-change
invariant-loop-change l = record {
  left : tree_after_all l.keep l.fill l.made (drop l.change-index l.changes) (tree_of l.self.files) ≡ tree_after_all l.keep l.fill l.made l.changes (tree_of l.fn.self.files);
  first : tree_of l.self.first.value ≡ tree_of l.fn.self.first.value;
}
