use Rattle.std.proofs.Common.{◌≡◌, ◌+◌, ◌≤◌, drop}
use Rattle.std.specs.List.{sum_by}
use Rattle.hgs_path.specs.StoreName.{most_spelled}
use Rattle.hgs_path.proofs.name.is_short.Given as goal

abbrev pub invariant-loop-byte : goal.invariant-loop-byte
invariant-loop-byte l = record {
  so_far : l.most + sum_by most_spelled (drop l.byte-index l.path) ≡ sum_by most_spelled l.path;
  small : l.most ≤ 101;
}
