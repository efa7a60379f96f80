use Rattle.hgs_shown.proofs.ContentLemmas.{contents}
use Rattle.hgs_shown.proofs.laws.contents_show_repository.Goals as goal

pub returns : goal.returns
returns c = contents c.laws_below.ensures
