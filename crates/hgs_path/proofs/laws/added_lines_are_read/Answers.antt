use Rattle.hgs_path.specs.Theorems.AddedLemmas.{name-added, file-added}
use Rattle.hgs_path.proofs.laws.added_lines_are_read.Goals as goal

pub returns : goal.returns
returns c = record { name = name-added; file = file-added }
