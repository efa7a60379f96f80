use Rattle.std.proofs.Common.{◌≡◌, length, drop}
use Rattle.hgs_load.specs.Refresh.{first_changed}
use Rattle.hgs_load.proofs.refresh.first_changed.Given as goal

abbrev pub invariant-loop-entry : goal.invariant-loop-entry
invariant-loop-entry l = record {
  same : first_changed l.rev l.rest (drop l.rev l.log.entries) ≡ first_changed 0 l.old l.log.entries;
}

abbrev pub decreases-loop-entry : goal.decreases-loop-entry
decreases-loop-entry l = length l.rest
