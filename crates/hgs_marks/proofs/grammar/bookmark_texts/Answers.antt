use Rattle.hgs_marks.proofs.MarkTextLemmas.{mark-lines, bookmark-texts}
use Rattle.hgs_marks.proofs.grammar.bookmark_texts.Goals as goal

pub returns-clause-lines : goal.returns-clause-lines
returns-clause-lines c = mark-lines

pub returns-clause-marks : goal.returns-clause-marks
returns-clause-marks c = bookmark-texts
