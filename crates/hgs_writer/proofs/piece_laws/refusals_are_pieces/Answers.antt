use Rattle.hgs_writer.proofs.RefusedLemmas.{released, turned-away}
use Rattle.hgs_writer.proofs.piece_laws.refusals_are_pieces.Goals as goal

pub returns : goal.returns
returns c = record { turned_away = turned-away; released = released }
