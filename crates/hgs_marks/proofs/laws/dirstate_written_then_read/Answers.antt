use Rattle.hgs_marks.specs.Theorems.DirstateText.{dirstate_back}
use Rattle.hgs_marks.proofs.laws.dirstate_written_then_read.Goals as goal

pub returns : goal.returns
returns c = dirstate_back
