use Rattle.hgs_index.specs.Theorems.ChangeTextLemmas.{change_back}
use Rattle.hgs_index.proofs.texts.change_prints_then_reads.Goals as goal

pub returns : goal.returns
returns c = change_back
