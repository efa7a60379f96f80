use Rattle.std.proofs.Common.{◌≡◌, ◌++◌, take}
use Rattle.hgs_judge.specs.Report.{each_from, findings_in, of_kinds}
use Rattle.hgs_judge.proofs.report.add_kinds.Given as goal

abbrev pub invariant-loop-rev : goal.invariant-loop-rev
invariant-loop-rev l = findings_in l.into.items ≡ findings_in l.initial.into.items ++ each_from (of_kinds l.path) 0 (take l.rev l.kinds)
