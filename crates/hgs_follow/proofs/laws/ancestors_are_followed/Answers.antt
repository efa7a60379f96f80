use Rattle.hgs_follow.proofs.FollowedLemmas.{ancestors-followed}
use Rattle.hgs_follow.proofs.laws.ancestors_are_followed.Goals as goal

pub returns : goal.returns
returns c = ancestors-followed
