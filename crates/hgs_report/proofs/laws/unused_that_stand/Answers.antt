use Rattle.hgs_report.proofs.StandLemmas.{unused-added}
use Rattle.hgs_report.proofs.laws.unused_that_stand.Goals as goal

pub returns : goal.returns
returns c = unused-added
