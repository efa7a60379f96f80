use Rattle.hgs_index.specs.Theorems.EitherLemmas.{begins-apart}
use Rattle.hgs_index.proofs.laws.inline_fronts_taken_apart.Goals as goal

pub returns : goal.returns
returns c = begins-apart
