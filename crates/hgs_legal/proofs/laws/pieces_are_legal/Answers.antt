use Rattle.hgs_legal.proofs.Pieces.{broken-run, refused-run, undone-run, whole-run}
use Rattle.hgs_legal.proofs.laws.pieces_are_legal.Goals as goal

pub returns : goal.returns
returns c = record { whole = whole-run; undone = undone-run; broken = broken-run; refused = refused-run }
