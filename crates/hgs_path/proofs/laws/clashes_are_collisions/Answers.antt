use Rattle.hgs_path.proofs.ClashLemmas.{collision}
use Rattle.hgs_path.proofs.laws.clashes_are_collisions.Goals as goal

pub returns : goal.returns
returns c = collision
