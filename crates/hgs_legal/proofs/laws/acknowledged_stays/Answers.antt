use Rattle.hgs_legal.proofs.RunLemmas.{acknowledged-stays}
use Rattle.hgs_legal.proofs.laws.acknowledged_stays.Goals as goal

pub returns : goal.returns
returns c = acknowledged-stays
