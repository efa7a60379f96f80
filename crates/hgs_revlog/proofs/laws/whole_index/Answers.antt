use Rattle.hgs_revlog.specs.Theorems.ReadLemmas.{loaded-held}
use Rattle.hgs_revlog.specs.Theorems.StandingLemmas.{held-loaded}
use Rattle.hgs_revlog.proofs.laws.whole_index.Goals as goal

pub returns-clause-holds : goal.returns-clause-holds
returns-clause-holds c = loaded-held

pub returns-clause-loads : goal.returns-clause-loads
returns-clause-loads c = held-loaded
