use Rattle.std.proofs.Common.{◌≡◌, ◌++◌, drop}
use Rattle.hgs_judge.specs.Report.{findings_in}
use Rattle.hgs_top.specs.Verified.{finding_lines}
use Rattle.hgs_top.proofs.verified.push_findings.Given as goal

abbrev pub invariant-loop-finding : goal.invariant-loop-finding
invariant-loop-finding l = l.into.items ++ finding_lines (findings_in (drop l.finding-index l.findings)) ≡ l.fn.into.items ++ finding_lines (findings_in l.findings)
