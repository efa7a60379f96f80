use Rattle.hgs_model.specs.History.{no_history}
use Rattle.hgs_shown.proofs.ContentLemmas.{found-rows, not-found, tracked-at, no-fault, small-at}
use Rattle.hgs_shown.proofs.laws.files_are_found.Goals as goal

pub returns : goal.returns
returns c = record { rows = found-rows; others = not-found; tracked = tracked-at no_history; pass = no-fault c.laws_below.ensures; small = small-at }
