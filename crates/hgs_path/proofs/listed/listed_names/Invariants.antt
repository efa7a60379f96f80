use Rattle.std.proofs.Common.{◌≡◌, ◌+◌, ◌≤◌, length}
use Rattle.hgs_bytes.specs.Text.{lines_of}
use Rattle.hgs_path.specs.ListedNames.{names_from, names_of}
use Rattle.hgs_path.proofs.ListedLemmas.{names_onto}
use Rattle.hgs_path.proofs.listed.listed_names.Given as goal

abbrev pub invariant-loop-rest : goal.invariant-loop-rest
invariant-loop-rest l = record {
  left : names_onto l.names (names_from l.number (lines_of l.rest)) ≡ names_of l.bytes;
  count : l.number + length l.rest ≤ length l.bytes + 1;
}

abbrev pub decreases-loop-rest : goal.decreases-loop-rest
decreases-loop-rest l = length l.rest
