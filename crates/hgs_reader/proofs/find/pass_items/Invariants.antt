use Rattle.std.proofs.Common.{length}
use Rattle.hgs_reader.proofs.PassedLemmas.{IsAt}
use Rattle.hgs_reader.proofs.find.pass_items.Given as goal

abbrev pub invariant-loop-entry : goal.invariant-loop-entry
invariant-loop-entry l = IsAt l.node.0 l.bytes l.rest

abbrev pub decreases-loop-entry : goal.decreases-loop-entry
decreases-loop-entry l = length l.rest
