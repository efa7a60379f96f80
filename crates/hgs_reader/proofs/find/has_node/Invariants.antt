use Rattle.std.proofs.Common.{◌≡◌, length}
use Rattle.hgs_reader.specs.Theorems.FindLemmas.{node_in}
use Rattle.hgs_reader.proofs.find.has_node.Given as goal

abbrev pub invariant-loop-entry : goal.invariant-loop-entry
invariant-loop-entry l = node_in l.node.0 l.rest ≡ node_in l.node.0 l.piece

abbrev pub decreases-loop-entry : goal.decreases-loop-entry
decreases-loop-entry l = length l.rest
