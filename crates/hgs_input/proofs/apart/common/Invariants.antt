use Rattle.std.proofs.Common.{length, ◌-◌, ◌≡◌, ◌+◌, drop}
use Rattle.hgs_input.specs.View.{common}
use Rattle.hgs_input.proofs.apart.common.Given as goal

abbrev pub invariant-loop-count : goal.invariant-loop-count
invariant-loop-count l = l.count + common (drop l.count l.a) (drop l.count l.b) ≡ common l.a l.b

abbrev pub decreases-loop-count : goal.decreases-loop-count
decreases-loop-count l = length l.a - l.count
