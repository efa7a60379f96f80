use Rattle.std.proofs.Common.{◌≡◌, true, take}
use Rattle.std.specs.List.{list_all}
use Rattle.hgs_index.specs.TrackedPath.{is_tracked}
use Rattle.hgs_findings.specs.Sight.{row_paths}
use Rattle.hgs_judge.proofs.trees.is_sound.Given as goal

abbrev pub invariant-loop-i : goal.invariant-loop-i
invariant-loop-i l = list_all is_tracked (row_paths (take l.i l.rows)) ≡ true
