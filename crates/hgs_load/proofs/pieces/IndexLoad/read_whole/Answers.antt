use Rattle.std.proofs.Common.{◌∙◌, ap, None}
use Rattle.hgs_load.specs.Load.{left_to_ask}
use Rattle.hgs_load.specs.declared.pieces.Former.TheVariants.{Whole}
use Rattle.hgs_load.specs.declared.pieces.Turn.TheVariants.{First}
use Rattle.hgs_load.proofs.pieces.IndexLoad.read_whole.Goals as goal

pub returns-clause-asks : goal.returns-clause-asks
returns-clause-asks c =
    ap (λ log. left_to_ask First (Whole c.args.former) 977 c.new.result.items log) c.requires.open
    ∙ ap (λ bytes. left_to_ask First (Whole c.args.former) 977 bytes None) c.new.ensures.items
