use Rattle.std.proofs.Common.{◌≡◌, ◌++◌, ℕ, List, take}
use Rattle.hgs_marks.specs.Lines.{node_values}
use Rattle.hgs_judge.specs.Read.{AreRead, revisions_in}
use Rattle.hgs_judge.specs.Report.{each_from, findings_in}
use Rattle.hgs_report.specs.Lines.{of_line}
use Rattle.hgs_report.proofs.lines.add_known.Given as goal

abbrev pub invariant-loop-at : goal.invariant-loop-at
invariant-loop-at l = (data_bytes : List ℕ) → AreRead l.changelog.log.entries data_bytes → findings_in l.into.items ≡ findings_in l.initial.into.items ++ each_from (of_line (revisions_in l.changelog.log.entries data_bytes) l.path l.kind) 1 (node_values (take l.at l.nodes))
