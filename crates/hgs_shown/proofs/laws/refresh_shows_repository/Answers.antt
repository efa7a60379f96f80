use Rattle.hgs_shown.proofs.OpenLemmas.{shown-again}
use Rattle.hgs_shown.proofs.laws.refresh_shows_repository.Goals as goal

pub returns : goal.returns
returns c = shown-again c.laws_below.ensures
