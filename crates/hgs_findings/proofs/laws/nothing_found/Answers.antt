use Rattle.std.proofs.Common.{sym}
use Rattle.hgs_findings.proofs.Basics.{never}
use Rattle.hgs_findings.proofs.CleanLemmas.{clean}
use Rattle.hgs_findings.proofs.laws.nothing_found.Goals as goal

pub returns-clause-findings : goal.returns-clause-findings
returns-clause-findings z t bytes profile none = clean t (record { bytes = bytes; none = none }) profile

pub returns-clause-report : goal.returns-clause-report
returns-clause-report z t changesets filelogs bytes profile report = clean t (record { bytes = bytes; none = λ path rev kind f. never (sym (report.complete path rev kind f)) }) profile
