use Rattle.std.proofs.Common.{sym, ◌∙◌, ap}
use Rattle.std.specs.Option.{option_copied}
use Rattle.hgs_index.specs.Inline.{is_inline}
use Rattle.hgs_load.specs.Load.{index_asks}
use Rattle.hgs_load.proofs.FeedLemmas.{first_step}
use Rattle.hgs_load.proofs.pieces.IndexLoad.take_first.Goals as goal

pub returns-clause-fed : goal.returns-clause-fed
returns-clause-fed c =
    let m = c.args.self.now in
    first_step m.turn m.former m.left m.bytes.items m.log (option_copied c.args.part) (index_asks c.take_piece.new.self) c.take_piece.result c.requires.turn c.requires.asked
    (ap is_inline (sym c.piece_of.ensures) ∙ sym c.is_inline.ensures ∙ c.if-is_inline.false) c.take_piece.ensures.fed
