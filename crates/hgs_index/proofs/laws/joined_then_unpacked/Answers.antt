use Rattle.hgs_index.specs.Theorems.FileTextLemmas.{unpacked-block, unpacked-bare, unpacked-plain}
use Rattle.hgs_index.proofs.laws.joined_then_unpacked.Goals as goal

pub returns : goal.returns
returns c = record { block = unpacked-block; bare = unpacked-bare; plain = unpacked-plain }
