use Rattle.std.proofs.Common.{◌≡◌, ◌+◌, ◌≤◌, length}
use Rattle.hgs_bytes.specs.Text.{lines_of}
use Rattle.hgs_path.specs.Fncache.{files_of, listing}
use Rattle.hgs_path.specs.ListedNames.{names_from}
use Rattle.hgs_path.specs.Theorems.FncacheLemmas.{files_more}
use Rattle.hgs_path.proofs.fncache.Fncache.read.Given as goal

abbrev pub invariant-loop-rest : goal.invariant-loop-rest
invariant-loop-rest l = record {
  left : files_more (listing l.fncache) (names_from l.number (lines_of l.rest)) ≡ files_of l.bytes;
  count : l.number + length l.rest ≤ length l.bytes + 1;
}

abbrev pub decreases-loop-rest : goal.decreases-loop-rest
decreases-loop-rest l = length l.rest
