use Rattle.hgs_revlog.specs.Theorems.TailHeldLemmas.{standing-added}
use Rattle.hgs_revlog.proofs.laws.standing_revision.Goals as goal

pub returns : goal.returns
returns c = standing-added
