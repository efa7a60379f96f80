use Rattle.hgs_index.specs.Theorems.RevlogLemmas.{length-held}
use Rattle.hgs_index.proofs.laws.held_index_length.Goals as goal

pub returns : goal.returns
returns c = length-held
