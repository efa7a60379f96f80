use Rattle.hgs_revset.proofs.WholeLemmas.{names_of_steps}
use Rattle.hgs_revset.proofs.laws.steps_have_names_of_set.Goals as goal

pub returns : goal.returns
returns c = names_of_steps
