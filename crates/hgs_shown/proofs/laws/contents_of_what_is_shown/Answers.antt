use Rattle.hgs_shown.proofs.ContentLemmas.{contents-over}
use Rattle.hgs_shown.proofs.laws.contents_of_what_is_shown.Goals as goal

pub returns : goal.returns
returns c = contents-over c.laws_below.ensures
