use Rattle.hgs_branch.proofs.BitLemmas.{low_above, low_bit}
use Rattle.hgs_branch.proofs.bits.lowest.Goals as goal

pub returns-clause-below : goal.returns-clause-below
returns-clause-below c = λ k lt. low_bit c.args.word c.args.count k c.requires.most lt

pub returns-clause-above : goal.returns-clause-above
returns-clause-above c = λ k le. low_above c.args.word c.args.count k c.requires.most le
