use Rattle.hgs_phases.specs.Theorems.PhaseLemmas.{UpTo}
use Rattle.hgs_phases.proofs.roots.Roots.phases_of.Given as goal

abbrev pub invariant-loop-rev : goal.invariant-loop-rev
invariant-loop-rev l = UpTo l.rev l.self l.known.entries l.phases.items
