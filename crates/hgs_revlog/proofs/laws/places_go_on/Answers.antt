use Rattle.hgs_revlog.proofs.PlaceFrontLemmas.{place-behind, place-stays}
use Rattle.hgs_revlog.proofs.laws.places_go_on.Goals as goal

pub returns : goal.returns
returns c = record { stays = place-stays; behind = place-behind }
