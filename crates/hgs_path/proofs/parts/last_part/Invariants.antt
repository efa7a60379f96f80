use Rattle.std.proofs.Common.{◌≡◌, length}
use Rattle.hgs_bytes.specs.Path.{components}
use Rattle.hgs_path.specs.StoreName.{last_part}
use Rattle.hgs_path.proofs.parts.last_part.Given as goal

abbrev pub invariant-loop-behind : goal.invariant-loop-behind
invariant-loop-behind l = last_part (components l.rest) ≡ last_part (components l.path)

abbrev pub decreases-loop-behind : goal.decreases-loop-behind
decreases-loop-behind l = length l.rest
