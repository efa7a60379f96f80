use Rattle.hgs_files.specs.Theorems.TreeLemmas.{apply-other}
use Rattle.hgs_files.proofs.laws.others_stay.Goals as goal

pub returns : goal.returns
returns c = apply-other
