use Rattle.hgs_ops.proofs.ShowLemmas.{entry-length}
use Rattle.hgs_ops.proofs.laws.published_by_the_last_byte.Goals as goal

pub returns : goal.returns
returns c = λ t r next n answer s good accepted ready. entry-length t r next n answer s good accepted
