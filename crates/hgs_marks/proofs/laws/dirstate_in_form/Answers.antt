use Rattle.hgs_marks.proofs.DirstateFound.{dirstate_found}
use Rattle.hgs_marks.proofs.laws.dirstate_in_form.Goals as goal

pub returns : goal.returns
returns c = dirstate_found
