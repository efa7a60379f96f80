use Rattle.hgs_revlog.specs.Theorems.TailHeldLemmas.{place-among}
use Rattle.hgs_revlog.proofs.laws.places_of_nodes.Goals as goal

pub returns : goal.returns
returns c = place-among
