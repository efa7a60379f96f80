use Rattle.hgs_shown.proofs.NameLemmas.{marks-stay}
use Rattle.hgs_shown.proofs.OpenLemmas.{working-read}
use Rattle.hgs_shown.proofs.laws.older_parts_stay.Goals as goal

pub returns : goal.returns
returns c = record { bookmarks = marks-stay c.laws_below.ensures; working = working-read c.laws_below.ensures }
