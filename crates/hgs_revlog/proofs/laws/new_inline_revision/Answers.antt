use Rattle.hgs_revlog.specs.Theorems.AddedLemmas.{new-inline-held}
use Rattle.hgs_revlog.proofs.laws.new_inline_revision.Goals as goal

pub returns : goal.returns
returns c = new-inline-held
