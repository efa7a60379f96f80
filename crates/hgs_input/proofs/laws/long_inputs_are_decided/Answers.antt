use Rattle.hgs_input.proofs.FrontLemmas.{decided}
use Rattle.hgs_input.proofs.laws.long_inputs_are_decided.Goals as goal

pub returns : goal.returns
returns c = decided
