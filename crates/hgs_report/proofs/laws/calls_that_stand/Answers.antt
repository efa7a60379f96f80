use Rattle.hgs_report.proofs.StandLemmas.{calls-added}
use Rattle.hgs_report.proofs.laws.calls_that_stand.Goals as goal

pub returns : goal.returns
returns c = calls-added
