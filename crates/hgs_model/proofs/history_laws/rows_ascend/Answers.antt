use Rattle.hgs_model.specs.Theorems.RowLemmas.{rows-good}
use Rattle.hgs_model.proofs.history_laws.rows_ascend.Goals as goal

pub returns : goal.returns
returns c = rows-good
