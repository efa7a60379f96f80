use Rattle.std.proofs.Common.{[], arith}
use Rattle.hgs_index.specs.Theorems.RevisionLemmas.{length-nodes_from}
use Rattle.hgs_index.proofs.laws.nodes_are_counted.Goals as goal

pub returns : goal.returns
returns c revisions = omega (arith, length-nodes_from [] revisions)
