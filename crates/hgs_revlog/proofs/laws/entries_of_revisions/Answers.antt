use Rattle.hgs_revlog.proofs.EntriesLemmas.{parents-agrees}
use Rattle.hgs_revlog.specs.Theorems.HeldLemmas.{length-agrees, nodes_of-agrees}
use Rattle.hgs_revlog.proofs.laws.entries_of_revisions.Goals as goal

pub returns-clause-nodes : goal.returns-clause-nodes
returns-clause-nodes c = nodes_of-agrees

pub returns-clause-parents : goal.returns-clause-parents
returns-clause-parents c = parents-agrees

pub returns-clause-count : goal.returns-clause-count
returns-clause-count c = length-agrees
