use Rattle.hgs_legal.proofs.PieceLemmas.{all-pieces-legal}
use Rattle.hgs_legal.proofs.TailLemmas.{legal-pieces}
use Rattle.hgs_legal.proofs.laws.legal_logs_are_pieces.Goals as goal

pub returns : goal.returns
returns c = record { of_pieces = legal-pieces; from_pieces = all-pieces-legal }
