use Rattle.std.proofs.Common.{◌≡◌, ℕ, List, take}
use Rattle.hgs_bytes.specs.Bytes.{among}
use Rattle.hgs_findings.specs.Sight.{row_paths, tracked_rows}
use Rattle.hgs_report.specs.Lines.{has_key}
use Rattle.hgs_report.proofs.tracked.set_of_rows.Given as goal

abbrev pub invariant-loop-i : goal.invariant-loop-i
invariant-loop-i l = (path : List ℕ) → has_key l.set.keys path ≡ among path (row_paths (tracked_rows (take l.i l.rows)))
