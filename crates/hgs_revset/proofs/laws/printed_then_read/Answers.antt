use Rattle.hgs_revset.proofs.PrintedLemmas.{printed_then_read}
use Rattle.hgs_revset.proofs.laws.printed_then_read.Goals as goal

pub returns : goal.returns
returns c = printed_then_read
