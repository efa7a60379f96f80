use Rattle.hgs_phases.specs.Theorems.AloneLemmas.{phases-same}
use Rattle.hgs_phases.proofs.laws.phases_of_nodes_and_parents.Goals as goal

pub returns : goal.returns
returns c = phases-same
