use Rattle.std.proofs.Common.{sym, ◌∙◌}
use Rattle.std.specs.Option.{option_copied}
use Rattle.hgs_load.specs.Load.{index_asks}
use Rattle.hgs_load.proofs.FeedLemmas.{whole_step}
use Rattle.hgs_load.proofs.pieces.IndexLoad.take_whole.Goals as goal

pub returns-then-is_long_apart-clause-fed : goal.returns-then-is_long_apart-clause-fed
returns-then-is_long_apart-clause-fed c =
    let m = c.args.self.now in
    whole_step m.turn m.former m.left m.bytes.items m.log (option_copied c.args.part) (index_asks c.read_pieces.new.self) c.requires.turn c.requires.asked (sym c.is_long_apart.ensures ∙ c.if-is_long_apart.true) c.read_pieces.ensures.asks
