use Rattle.std.proofs.Common.{◌≡◌, length}
use Rattle.hgs_bytes.specs.Text.{lines_of}
use Rattle.hgs_follow.specs.Source.{value_in}
use Rattle.hgs_follow.proofs.source.value_of.Given as goal

abbrev pub invariant-loop-rest : goal.invariant-loop-rest
invariant-loop-rest l = value_in l.key (lines_of l.rest) ≡ value_in l.key (lines_of l.fn.metadata)

abbrev pub decreases-loop-rest : goal.decreases-loop-rest
decreases-loop-rest l = length l.rest
