use Rattle.std.proofs.Common.{◌≡◌, ◌++◌, take}
use Rattle.hgs_judge.specs.Report.{each_from, findings_in}
use Rattle.hgs_report.specs.Lines.{of_mark}
use Rattle.hgs_report.proofs.lists.add_known.Given as goal

abbrev pub invariant-loop-rev : goal.invariant-loop-rev
invariant-loop-rev l = findings_in l.into.items ≡ findings_in l.initial.into.items ++ each_from (of_mark l.path) 0 (take l.rev l.marks)
