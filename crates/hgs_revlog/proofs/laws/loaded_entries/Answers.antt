use Rattle.hgs_revlog.proofs.LoadedLemmas.{loaded-entries, loaded-separate, loaded-nodes}
use Rattle.hgs_revlog.proofs.laws.loaded_entries.Goals as goal

pub returns-clause-entries : goal.returns-clause-entries
returns-clause-entries c = loaded-entries

pub returns-clause-separate : goal.returns-clause-separate
returns-clause-separate c = loaded-separate

pub returns-clause-nodes : goal.returns-clause-nodes
returns-clause-nodes c = loaded-nodes
