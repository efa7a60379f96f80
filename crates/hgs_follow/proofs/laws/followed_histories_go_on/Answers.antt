use Rattle.hgs_follow.proofs.FollowedLemmas.{followed-trans}
use Rattle.hgs_follow.proofs.laws.followed_histories_go_on.Goals as goal

pub returns : goal.returns
returns c = followed-trans
