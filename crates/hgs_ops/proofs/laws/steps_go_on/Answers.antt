use Rattle.hgs_ops.proofs.NextLemmas.{goes-on}
use Rattle.hgs_ops.proofs.laws.steps_go_on.Goals as goal

pub returns : goal.returns
returns c = goes-on
