use Rattle.hgs_judge.specs.Report.{findings_in}
use Rattle.hgs_verify.proofs.ProfileLemmas.{in-profile}
use Rattle.hgs_verify.proofs.laws.empty_reports.Goals as goal

pub returns : goal.returns
returns c = λ t report bytes required is. c.empty_exactly_where_clean.ensures t (findings_in report.findings.items) report.changesets report.filelogs bytes (in-profile t required) is
