use Rattle.hgs_input.proofs.FrontLemmas.{record_alike}
use Rattle.hgs_input.proofs.laws.fronts_are_read_alike.Goals as goal

pub returns : goal.returns
returns c = record_alike
