use Rattle.hgs_follow.proofs.FollowedLemmas.{followed-least}
use Rattle.hgs_follow.proofs.laws.followed_history_is_least.Goals as goal

pub returns : goal.returns
returns c = followed-least
