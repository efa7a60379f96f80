use Rattle.hgs_model.specs.Theorems.CountLemmas.{number-below}
use Rattle.hgs_model.specs.Theorems.ListedLemmas.{number-text}
use Rattle.hgs_model.proofs.history_laws.revisions_have_numbers.Goals as goal

pub returns-clause-below : goal.returns-clause-below
returns-clause-below c = number-below

pub returns-clause-text : goal.returns-clause-text
returns-clause-text c = number-text
