use Rattle.std.proofs.Common.{◌<◌, ◌≤◌, ◌-◌, length, take}
use Rattle.hgs_revlog.specs.Chains.{AreChains}
use Rattle.hgs_revlog.proofs.chains.Chains.of.Given as goal

abbrev pub invariant-loop-chains : goal.invariant-loop-chains
invariant-loop-chains l =
    AreChains l.chains (take (length l.chains.links.items) l.entries) × (0 < length l.chains.lasts.items) × (length l.chains.links.items ≤ length l.entries)

abbrev pub decreases-loop-chains : goal.decreases-loop-chains
decreases-loop-chains l = length l.entries - length l.chains.links.items
