use Rattle.hgs_commit.specs.Known.{AreKept}
use Rattle.hgs_commit.proofs.AnswerLemmas.{alone-free}
use Rattle.hgs_commit.proofs.commit.commit.Goals as goal

pub commit_knowing-requires-clause-known : goal.commit_knowing-requires-clause-known
commit_knowing-requires-clause-known g c =
    alone-free g.R.Reads.alone (g.R.Reads.seen c.args.files.now) (g.R.Reads.start c.args.files.now) (λ t. AreKept t c.none-known.result) c.none-known.ensures
