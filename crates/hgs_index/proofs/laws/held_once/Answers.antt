use Rattle.hgs_index.specs.Theorems.UniqueLemmas.{held-unique}
use Rattle.hgs_index.proofs.laws.held_once.Goals as goal

pub returns : goal.returns
returns c = held-unique
