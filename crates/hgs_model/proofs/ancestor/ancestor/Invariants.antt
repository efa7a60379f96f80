use Rattle.hgs_model.specs.Theorems.ReachedLemmas.{Walk}
use Rattle.hgs_model.proofs.ancestor.ancestor.Given as goal

abbrev pub invariant-loop-pair : goal.invariant-loop-pair
invariant-loop-pair l = Walk l.a l.reached.items l.pair-index l.within
