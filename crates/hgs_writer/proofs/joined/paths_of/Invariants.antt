use Rattle.std.proofs.Common.{◌≡◌, ◌≤◌, drop, length}
use Rattle.std.specs.Prelude.{flat_map}
use Rattle.hgs_model.specs.History.{in_order}
use Rattle.hgs_writer.proofs.PathSets.{paths_of_change}
use Rattle.hgs_writer.proofs.joined.paths_of.Given as goal

abbrev pub invariant-loop-left : goal.invariant-loop-left
invariant-loop-left l = record {
  within : l.left ≤ length l.changes;
  keys : l.paths.keys ≡ in_order (flat_map paths_of_change (drop l.left l.changes));
}

abbrev pub decreases-loop-left : goal.decreases-loop-left
decreases-loop-left l = l.left
