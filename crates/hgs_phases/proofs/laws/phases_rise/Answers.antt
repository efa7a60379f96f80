use Rattle.hgs_phases.specs.Theorems.RiseLemmas.{given_rise, advanced_rise, retracted_rise, pushed_rise}
use Rattle.hgs_phases.proofs.laws.phases_rise.Goals as goal

pub returns-clause-given : goal.returns-clause-given
returns-clause-given c = given_rise

pub returns-clause-advanced : goal.returns-clause-advanced
returns-clause-advanced c = advanced_rise

pub returns-clause-retracted : goal.returns-clause-retracted
returns-clause-retracted c = retracted_rise

pub returns-clause-pushed : goal.returns-clause-pushed
returns-clause-pushed c = pushed_rise
