use Rattle.hgs_follow.proofs.SourceLemmas.{copy-read}
use Rattle.hgs_follow.proofs.laws.written_copies_are_read.Goals as goal

pub returns : goal.returns
returns c = copy-read
