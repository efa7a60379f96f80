use Rattle.hgs_index.specs.Theorems.RevlogLemmas.{chunk_text-chunk_of}
use Rattle.hgs_index.proofs.laws.chunk_then_text.Goals as goal

pub returns : goal.returns
returns c = chunk_text-chunk_of
