use Rattle.hgs_load.specs.Theorems.OpenedLemmas.{opened_log}
use Rattle.hgs_load.proofs.ViewLemmas.{opening, refreshing}
use Rattle.hgs_load.proofs.laws.parts_make_views.Goals as goal

pub returns-clause-opened : goal.returns-clause-opened
returns-clause-opened c = opening

pub returns-clause-refreshed : goal.returns-clause-refreshed
returns-clause-refreshed c = refreshing

pub returns-clause-log : goal.returns-clause-log
returns-clause-log c = opened_log
