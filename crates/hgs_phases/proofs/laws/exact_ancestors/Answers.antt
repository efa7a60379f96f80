use Rattle.hgs_phases.specs.Theorems.RiseLemmas.{exact_ancestors}
use Rattle.hgs_phases.proofs.laws.exact_ancestors.Goals as goal

pub returns : goal.returns
returns c = exact_ancestors
