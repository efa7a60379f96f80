use Rattle.hgs_report.proofs.PartLemmas.{report-made}
use Rattle.hgs_report.proofs.laws.parts_make_report.Goals as goal

pub returns : goal.returns
returns c = report-made c.one_path.ensures.namings
