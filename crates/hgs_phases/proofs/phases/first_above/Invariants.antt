use Rattle.std.proofs.Common.{◌-◌, ◌≤◌, length}
use Rattle.hgs_phases.specs.Phases.{AreFrontPublic}
use Rattle.hgs_phases.proofs.phases.first_above.Given as goal

abbrev pub invariant-loop-rev : goal.invariant-loop-rev
invariant-loop-rev l = AreFrontPublic l.rev l.phases × (l.rev ≤ length l.phases)

abbrev pub decreases-loop-rev : goal.decreases-loop-rev
decreases-loop-rev l = length l.phases - l.rev
