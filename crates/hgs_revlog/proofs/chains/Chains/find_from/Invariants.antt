use Rattle.std.proofs.Common.{◌≤◌, length}
use Rattle.hgs_revlog.specs.Chains.{IsOn}
use Rattle.hgs_revlog.proofs.chains.Chains.find_from.Given as goal

abbrev pub invariant-loop-until : goal.invariant-loop-until
invariant-loop-until l = IsOn l.self l.known l.node l.until × (l.until ≤ length l.known)

abbrev pub decreases-loop-until : goal.decreases-loop-until
decreases-loop-until l = l.until
