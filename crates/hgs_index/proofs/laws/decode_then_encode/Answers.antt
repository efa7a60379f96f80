use Rattle.hgs_index.specs.Theorems.EntryTakenLemmas.{entry_taken}
use Rattle.hgs_index.proofs.laws.decode_then_encode.Goals as goal

pub returns : goal.returns
returns c = entry_taken
