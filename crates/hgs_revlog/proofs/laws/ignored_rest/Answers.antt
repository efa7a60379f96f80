use Rattle.hgs_revlog.specs.Theorems.TailLemmas.{ignore-refuse}
use Rattle.hgs_revlog.specs.Theorems.TailHeldLemmas.{ignored-held, front-ignored}
use Rattle.hgs_revlog.proofs.laws.ignored_rest.Goals as goal

pub returns-clause-front : goal.returns-clause-front
returns-clause-front c = ignore-refuse

pub returns-clause-holds : goal.returns-clause-holds
returns-clause-holds c = ignored-held

pub returns-clause-loads : goal.returns-clause-loads
returns-clause-loads c = front-ignored
