use Rattle.hgs_top.proofs.HistoryLemmas.{log-history}
use Rattle.hgs_top.proofs.laws.log_tells_history.Goals as goal

pub returns : goal.returns
returns c = log-history c.indexes_are_loaded.ensures
