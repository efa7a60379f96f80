use Rattle.hgs_follow.proofs.SourceLemmas.{no-copy-read}
use Rattle.hgs_follow.proofs.laws.other_files_are_no_copies.Goals as goal

pub returns : goal.returns
returns c = no-copy-read
