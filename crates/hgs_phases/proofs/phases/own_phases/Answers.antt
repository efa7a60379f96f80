use Rattle.hgs_phases.specs.Theorems.PhaseLemmas.{own_next}
use Rattle.hgs_phases.proofs.phases.own_phases.Goals as goal

pub loop-root-preserved : goal.loop-root-preserved
loop-root-preserved c = own_next _ _ _ _ _ _ c.loop-root-test.true c.loop-root.invariant c.raise_root.ensures
