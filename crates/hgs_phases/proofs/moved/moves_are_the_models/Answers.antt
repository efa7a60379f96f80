use Rattle.hgs_phases.proofs.ModelLemmas.{advanced-model, retracted-model}
use Rattle.hgs_phases.proofs.moved.moves_are_the_models.Goals as goal

pub returns-clause-advanced : goal.returns-clause-advanced
returns-clause-advanced c = advanced-model

pub returns-clause-retracted : goal.returns-clause-retracted
returns-clause-retracted c = retracted-model
