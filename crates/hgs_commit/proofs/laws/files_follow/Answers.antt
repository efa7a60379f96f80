use Rattle.hgs_commit.proofs.FollowLemmas.{follow}
use Rattle.hgs_commit.proofs.laws.files_follow.Goals as goal

pub returns : goal.returns
returns c = λ change is. follow change.files is.paths is.ordered
