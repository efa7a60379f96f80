use Rattle.hgs_marks.specs.Theorems.MarkText.{bookmarks_back}
use Rattle.hgs_marks.proofs.laws.bookmarks_written_then_read.Goals as goal

pub returns : goal.returns
returns c = bookmarks_back
