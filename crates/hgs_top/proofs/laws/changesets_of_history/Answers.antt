use Rattle.hgs_top.proofs.ChangesetLemmas.{history-changesets}
use Rattle.hgs_top.proofs.laws.changesets_of_history.Goals as goal

pub returns : goal.returns
returns c = history-changesets c.indexes_are_loaded.ensures
