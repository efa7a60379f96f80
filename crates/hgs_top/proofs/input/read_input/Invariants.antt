use Rattle.std.proofs.Common.{◌≡◌, ◌≤◌, ◌+◌, ◌-◌, length}
use Rattle.hgs_input.specs.Record.{most_input}
use Rattle.hgs_top.proofs.InputLemmas.{AreTaken}
use Rattle.hgs_top.proofs.input.read_input.Given as goal

abbrev pub invariant-loop-bytes : goal.invariant-loop-bytes
invariant-loop-bytes g l = record {
  taken : AreTaken (g.S.Source.left l.fn.input) (g.S.Source.left l.input) l.bytes.items;
  few : length l.bytes.items ≤ most_input + 1;
  counts : g.S.Source.faults l.input ≡ g.S.Source.faults l.fn.input;
}

abbrev pub decreases-loop-bytes : goal.decreases-loop-bytes
decreases-loop-bytes g l = most_input + 1 - length l.bytes.items
