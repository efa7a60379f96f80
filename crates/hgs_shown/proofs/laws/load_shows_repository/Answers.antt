use Rattle.hgs_shown.proofs.OpenLemmas.{shown}
use Rattle.hgs_shown.proofs.laws.load_shows_repository.Goals as goal

pub returns : goal.returns
returns c = shown c.laws_below.ensures
