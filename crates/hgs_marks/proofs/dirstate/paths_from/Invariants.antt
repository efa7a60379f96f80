use Rattle.std.proofs.Common.{◌≤◌, length}
use Rattle.hgs_marks.specs.Dirstate.{read_paths}
use Rattle.hgs_marks.specs.Theorems.DirstateLemmas.{AllPaths}
use Rattle.hgs_marks.proofs.dirstate.paths_from.Given as goal

abbrev pub invariant-loop-rest : goal.invariant-loop-rest
invariant-loop-rest l = record {
  read : AllPaths l.paths (length l.text) l.rest (read_paths l.text);
  room : length l.rest ≤ length l.text;
}

abbrev pub decreases-loop-rest : goal.decreases-loop-rest
decreases-loop-rest l = length l.rest
