use Rattle.std.proofs.Common.{◌≡◌, true, take}
use Rattle.std.specs.List.{list_all}
use Rattle.hgs_findings.specs.Sight.{row_paths, tracked_rows}
use Rattle.hgs_report.specs.Lines.{has_key}
use Rattle.hgs_report.proofs.tracked.has_all.Given as goal

abbrev pub invariant-loop-i : goal.invariant-loop-i
invariant-loop-i l = list_all (has_key l.set.keys) (row_paths (tracked_rows (take l.i l.rows))) ≡ true
