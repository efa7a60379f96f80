use Rattle.hgs_shown.proofs.NameLemmas.{names-over}
use Rattle.hgs_shown.proofs.laws.names_of_what_is_shown.Goals as goal

pub returns : goal.returns
returns c = names-over c.laws_below.ensures
