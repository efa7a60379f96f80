use Rattle.hgs_index.specs.Node.{IsNode}
use Rattle.hgs_index.specs.Revision.{nodes}
use Rattle.hgs_model.specs.Theorems.ListLemmas.{all-map}
use Rattle.hgs_model.specs.Theorems.ListedLemmas.{rev-same}
use Rattle.hgs_model.specs.Theorems.NodeLemmas.{node_at-node, nodes-nodes}
use Rattle.hgs_model.specs.Theorems.NodeLemmas as local
use Rattle.hgs_model.proofs.history_laws.nodes_name_revisions.Goals as goal

pub returns-clause-all : goal.returns-clause-all
returns-clause-all c revisions = all-map local.IsNode IsNode (nodes revisions) (λ node is. record { size = is.size; bytes = is.bytes }) (nodes-nodes revisions)

pub returns-clause-node : goal.returns-clause-node
returns-clause-node c revisions rev = let is = node_at-node revisions rev in record { size = is.size; bytes = is.bytes }

pub returns-clause-one : goal.returns-clause-one
returns-clause-one c = rev-same
