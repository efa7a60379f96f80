use Rattle.hgs_input.proofs.FrontLemmas.{front_cut}
use Rattle.hgs_input.proofs.laws.fronts_are_cut.Goals as goal

pub returns : goal.returns
returns c = front_cut
