use Rattle.std.proofs.Common.{◌≤◌, ℕ}
use Rattle.hgs_branch.proofs.BitLemmas.{HasNone}
use Rattle.hgs_branch.proofs.bits.last_below.Given as goal

abbrev pub invariant-loop-end : goal.invariant-loop-end
invariant-loop-end l = record {
  within : l.end ≤ l.fn.below;
  none : HasNone l.words l.end l.fn.below;
}

abbrev pub decreases-loop-end : goal.decreases-loop-end
decreases-loop-end l = l.end
