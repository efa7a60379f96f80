use Rattle.hgs_legal.proofs.FrontLemmas.{leaves-front, piece-front}
use Rattle.hgs_legal.proofs.laws.fronts_are_pieces.Goals as goal

pub returns : goal.returns
returns c = record { of_piece = piece-front; of_left = leaves-front }
