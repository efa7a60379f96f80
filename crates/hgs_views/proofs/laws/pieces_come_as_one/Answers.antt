use Rattle.std.proofs.Common.{[]}
use Rattle.hgs_load.specs.Asks.{then_asks}
use Rattle.hgs_load.specs.View.{pieces_then, most_pieces}
use Rattle.hgs_views.proofs.Basics.{may-front}
use Rattle.hgs_views.proofs.CourseLemmas.{itself-between}
use Rattle.hgs_views.proofs.MomentLemmas.{pieces-whole}
use Rattle.hgs_views.proofs.laws.pieces_come_as_one.Goals as goal

pub returns : goal.returns
returns c start path first last f more y stays room m =
    pieces-whole start path first last y f more stays room first (itself-between first last (may-front (then_asks (pieces_then path most_pieces [] f) more) start first last y m)) m
