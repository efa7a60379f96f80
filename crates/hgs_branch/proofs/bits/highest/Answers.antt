use Rattle.hgs_branch.proofs.BitLemmas.{high_above}
use Rattle.hgs_branch.proofs.bits.highest.Goals as goal

pub returns-clause-above : goal.returns-clause-above
returns-clause-above c = λ k lt. high_above c.args.word c.ilog2.result k c.ilog2.ensures.next_power_gt lt
