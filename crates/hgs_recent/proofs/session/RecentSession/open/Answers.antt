use Rattle.hgs_load.specs.Open.{open_asks}
use Rattle.hgs_load.specs.Theorems.GivenLemmas.{takes-no-memory}
use Rattle.hgs_recent.specs.Questions.{Recent}
use Rattle.hgs_recent.proofs.session.RecentSession.open.Goals as goal

pub returns-in_err-texts-clause-given : goal.returns-in_err-texts-clause-given
returns-in_err-texts-clause-given g c =
    takes-no-memory (λ (recent : Recent). recent.view) (g.R.Reads.given c.args.files.now) (g.R.Reads.seen c.args.files.now) (g.R.Reads.start c.args.files.now) open_asks c.from_residual.result c.from_residual.ensures.0 c.from_residual.ensures.1
