use Rattle.hgs_top.proofs.HistoryLemmas.{history-log}
use Rattle.hgs_top.proofs.laws.log_of_history.Goals as goal

pub returns : goal.returns
returns c = history-log c.indexes_are_loaded.ensures
