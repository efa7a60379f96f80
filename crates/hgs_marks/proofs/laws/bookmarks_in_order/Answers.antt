use Rattle.hgs_marks.specs.Theorems.MarkOrder.{set_kept, without_kept}
use Rattle.hgs_marks.specs.Theorems.MarkText.{bookmarks_found}
use Rattle.hgs_marks.proofs.laws.bookmarks_in_order.Goals as goal

pub returns-clause-read : goal.returns-clause-read
returns-clause-read c = bookmarks_found

pub returns-clause-set : goal.returns-clause-set
returns-clause-set c = set_kept

pub returns-clause-left : goal.returns-clause-left
returns-clause-left c = without_kept
