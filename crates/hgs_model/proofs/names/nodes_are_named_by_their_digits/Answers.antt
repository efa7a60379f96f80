use Rattle.hgs_model.proofs.DigitLemmas.{digits-name}
use Rattle.hgs_model.proofs.names.nodes_are_named_by_their_digits.Goals as goal

pub returns : goal.returns
returns c = digits-name
