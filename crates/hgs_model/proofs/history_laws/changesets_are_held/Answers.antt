use Rattle.hgs_model.specs.Theorems.HeldLemmas.{held, count}
use Rattle.hgs_model.proofs.history_laws.changesets_are_held.Goals as goal

pub returns-clause-each : goal.returns-clause-each
returns-clause-each c = held

pub returns-clause-count : goal.returns-clause-count
returns-clause-count c = count
