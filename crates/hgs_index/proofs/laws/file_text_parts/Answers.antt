use Rattle.hgs_index.specs.Theorems.FileTextLemmas.{unpacked-joins, prefix-block}
use Rattle.hgs_index.proofs.laws.file_text_parts.Goals as goal

pub returns : goal.returns
returns c = λ text. (unpacked-joins text, prefix-block text)
