use Rattle.std.proofs.Common.{drop}
use Rattle.hgs_phases.specs.Theorems.PhaseLemmas.{OwnBut}
use Rattle.hgs_phases.proofs.phases.own_phases.Given as goal

abbrev pub invariant-loop-root : goal.invariant-loop-root
invariant-loop-root l = OwnBut (drop l.root-index l.roots) l.roots l.known.entries l.phases.items
