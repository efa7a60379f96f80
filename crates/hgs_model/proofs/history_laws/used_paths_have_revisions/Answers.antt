use Rattle.hgs_model.specs.Theorems.CountLemmas.{unused-empty}
use Rattle.hgs_model.specs.Theorems.UsedLemmas.{used-paths}
use Rattle.hgs_model.proofs.history_laws.used_paths_have_revisions.Goals as goal

pub returns-clause-files : goal.returns-clause-files
returns-clause-files c = used-paths

pub returns-clause-unused : goal.returns-clause-unused
returns-clause-unused c = unused-empty
