use Rattle.hgs_model.specs.Theorems.BeforeLemmas.{phases-rise}
use Rattle.hgs_model.proofs.laws.phases_rise.Goals as goal

pub returns : goal.returns
returns c r a b is h = phases-rise r is a b h
