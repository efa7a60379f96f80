use Rattle.hgs_branch.proofs.PrintLemmas.{test_is}
use Rattle.hgs_branch.proofs.laws.tests_are_exact.Goals as goal

pub returns : goal.returns
returns c = λ parents names rev before long low. test_is parents names rev before long low
