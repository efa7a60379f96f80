use Rattle.hgs_index.specs.Theorems.EitherLemmas.{form-one-more}
use Rattle.hgs_index.proofs.laws.held_and_one_more_in_either_form.Goals as goal

pub returns : goal.returns
returns c = form-one-more
