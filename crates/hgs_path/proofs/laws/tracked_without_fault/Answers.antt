use Rattle.hgs_path.specs.Theorems.CheckLemmas.{checked-tracked}
use Rattle.hgs_path.proofs.laws.tracked_without_fault.Goals as goal

pub returns : goal.returns
returns c = checked-tracked
