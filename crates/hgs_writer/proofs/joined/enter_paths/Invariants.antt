use Rattle.std.proofs.Common.{◌≡◌, ◌≤◌, drop, length}
use Rattle.hgs_model.specs.Valid.{new_paths}
use Rattle.hgs_writer.specs.Layered.{entered}
use Rattle.hgs_writer.proofs.joined.enter_paths.Given as goal

abbrev pub invariant-loop-left : goal.invariant-loop-left
invariant-loop-left l = record {
  within : l.left ≤ length l.files;
  keys : l.paths.keys ≡ entered (new_paths (drop l.left l.files)) l.fn.paths.keys;
}

abbrev pub decreases-loop-left : goal.decreases-loop-left
decreases-loop-left l = l.left
