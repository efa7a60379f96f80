use Rattle.hgs_shown.proofs.OpenLemmas.{requires-read, bookmarks-read, dirstate-read, roots-read}
use Rattle.hgs_shown.proofs.laws.whole_files_are_read.Goals as goal

pub returns : goal.returns
returns c = record { requirements = requires-read c.laws_below.ensures; bookmarks = bookmarks-read c.laws_below.ensures; dirstate = dirstate-read c.laws_below.ensures; roots = roots-read c.laws_below.ensures }
