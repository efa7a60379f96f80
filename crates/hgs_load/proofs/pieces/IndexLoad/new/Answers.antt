use Rattle.std.proofs.Common.{ap, None}
use Rattle.hgs_load.specs.Load.{left_to_ask}
use Rattle.hgs_load.specs.declared.pieces.Former.TheVariants.{Nothing}
use Rattle.hgs_load.specs.declared.pieces.Turn.TheVariants.{First}
use Rattle.hgs_load.proofs.pieces.IndexLoad.new.Goals as goal

pub returns : goal.returns
returns c = ap (λ bytes. left_to_ask First Nothing 977 bytes None) c.new.ensures.items
