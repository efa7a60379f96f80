use Rattle.hgs_marks.specs.Theorems.MarkText.{marks_back}
use Rattle.hgs_marks.proofs.laws.bookmark_lines_written_then_read.Goals as goal

pub returns : goal.returns
returns c = marks_back 0
