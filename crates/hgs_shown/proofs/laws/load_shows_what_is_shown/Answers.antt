use Rattle.hgs_shown.proofs.OpenLemmas.{shown-over}
use Rattle.hgs_shown.proofs.laws.load_shows_what_is_shown.Goals as goal

pub returns : goal.returns
returns c = shown-over c.laws_below.ensures
