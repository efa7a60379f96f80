use Rattle.std.proofs.Common.{sym}
use Rattle.hgs_judge.proofs.TreeLemmas.{tree-rows}
use Rattle.hgs_judge.proofs.laws.tracked_trees.Goals as goal

pub returns : goal.returns
returns c = λ s r. sym (tree-rows s r)
