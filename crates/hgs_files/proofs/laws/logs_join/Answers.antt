use Rattle.hgs_files.specs.Theorems.TreeLemmas.{after_all-append}
use Rattle.hgs_files.proofs.laws.logs_join.Goals as goal

pub returns : goal.returns
returns c = after_all-append
