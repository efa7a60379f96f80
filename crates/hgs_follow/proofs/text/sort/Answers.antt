use Rattle.hgs_follow.proofs.OrderLemmas.{in_order}
use Rattle.hgs_follow.proofs.text.sort.Goals as goal

pub returns-clause-ordered : goal.returns-clause-ordered
returns-clause-ordered c = in_order c.sort_unstable.new.self.items c.sort_unstable.ensures.sorted
