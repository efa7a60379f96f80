use Rattle.hgs_index.specs.Theorems.RevlogFrontLemmas.{held-front}
use Rattle.hgs_index.proofs.laws.held_fronts.Goals as goal

pub returns : goal.returns
returns c = held-front
