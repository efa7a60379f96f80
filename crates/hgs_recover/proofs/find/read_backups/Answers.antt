use Rattle.hgs_recover.proofs.Finding.{refused-list}
use Rattle.hgs_recover.proofs.find.read_backups.Goals as goal

pub returns-clause-found : goal.returns-clause-found
returns-clause-found g c =
    refused-list g.R.Reads.alone (g.R.Reads.seen c.read_standing.new.files) (g.R.Reads.start c.read_standing.new.files) c.in_ok-path.path c.in_ok-bytes.bytes c.as_slice.result.now c.in-Err.refusal c.in_ok-path.ensures c.as_slice.ensures
    c.in_ok-bytes.ensures.found c.in-Err.ensures.said
