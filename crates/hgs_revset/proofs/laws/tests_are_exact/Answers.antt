use Rattle.hgs_revset.proofs.HoldsLemmas.{holds_exactly}
use Rattle.hgs_revset.proofs.laws.tests_are_exact.Goals as goal

pub returns : goal.returns
returns c = holds_exactly
