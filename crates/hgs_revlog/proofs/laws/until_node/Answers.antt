use Rattle.hgs_revlog.specs.Theorems.TailLemmas.{ignore-until, until-fault}
use Rattle.hgs_revlog.specs.Theorems.TailHeldLemmas.{until-held, front-until}
use Rattle.hgs_revlog.proofs.laws.until_node.Goals as goal

pub returns-clause-holds : goal.returns-clause-holds
returns-clause-holds c = until-held

pub returns-clause-loads : goal.returns-clause-loads
returns-clause-loads c = front-until

pub returns-clause-missing : goal.returns-clause-missing
returns-clause-missing c = ignore-until

pub returns-clause-fault : goal.returns-clause-fault
returns-clause-fault c = until-fault
