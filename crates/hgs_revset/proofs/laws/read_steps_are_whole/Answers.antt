use Rattle.hgs_revset.proofs.WholeLemmas.{steps_are_whole}
use Rattle.hgs_revset.proofs.laws.read_steps_are_whole.Goals as goal

pub returns : goal.returns
returns c = steps_are_whole
