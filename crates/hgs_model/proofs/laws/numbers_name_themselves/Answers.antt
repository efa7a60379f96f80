use Rattle.hgs_model.specs.Theorems.NameLemmas.{named-number}
use Rattle.hgs_model.proofs.laws.numbers_name_themselves.Goals as goal

pub returns : goal.returns
returns c = named-number
