use Rattle.hgs_reader.proofs.ViewLemmas.{change-at-rest, change-placed, change-read}
use Rattle.hgs_reader.proofs.laws.changesets_are_read.Goals as goal

pub returns-clause-chunk : goal.returns-clause-chunk
returns-clause-chunk c = change-at-rest

pub returns-clause-placed : goal.returns-clause-placed
returns-clause-placed c = change-placed

pub returns-clause-revision : goal.returns-clause-revision
returns-clause-revision c = change-read
