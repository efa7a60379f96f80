use Rattle.hgs_files.specs.Theorems.LogLemmas.{after-done}
use Rattle.hgs_files.proofs.laws.pieces_join.Goals as goal

pub returns : goal.returns
returns c = after-done
