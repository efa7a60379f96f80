use Rattle.hgs_index.specs.Theorems.ChangeTextLemmas.{change_found}
use Rattle.hgs_index.proofs.texts.change_reads_then_prints.Goals as goal

pub returns : goal.returns
returns c = change_found
