use Rattle.hgs_files.specs.Theorems.LogLemmas.{piece-piece}
use Rattle.hgs_files.proofs.laws.pieces_of_pieces.Goals as goal

pub returns : goal.returns
returns c = piece-piece
