use Rattle.hgs_legal.proofs.ListPieces.{left-lines, piece-lines}
use Rattle.hgs_legal.proofs.list_laws.pieces_keep_lists.Goals as goal

pub returns : goal.returns
returns c = record {
  piece = λ t r next log stands lists p. record { lines = piece-lines t r stands lists log next p };
  left = λ t r log stands lists p. record { lines = left-lines t r stands lists log p };
}
