use Rattle.hgs_model.specs.Theorems.StepLemmas.{named-below}
use Rattle.hgs_model.proofs.laws.named_is_there.Goals as goal

pub returns : goal.returns
returns c = named-below
