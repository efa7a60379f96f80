use Rattle.hgs_index.specs.Theorems.EntryLemmas.{header_again}
use Rattle.hgs_index.proofs.laws.encode_then_header.Goals as goal

pub returns : goal.returns
returns c = header_again
