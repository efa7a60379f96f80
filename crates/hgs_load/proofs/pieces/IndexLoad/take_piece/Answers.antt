use Rattle.std.proofs.Common.{sym, ◌∙◌}
use Rattle.std.specs.Option.{option_copied}
use Rattle.hgs_load.specs.Load.{index_asks}
use Rattle.hgs_load.proofs.FeedLemmas.{goes_on, last_piece, finished, not_loaded}
use Rattle.hgs_load.proofs.pieces.IndexLoad.take_piece.Goals as goal

pub returns-clause-fed : goal.returns-clause-fed
returns-clause-fed c =
    goes_on c.args.self.now.turn c.args.self.now.former c.args.self.now.left c.args.self.now.bytes.items c.extend_from_slice.new.self.items c.piece_of-piece.result.now (option_copied c.args.part) c.args.self.now.log
    c.requires.turn c.requires.asked c.args.self.now.some_left c.piece_of-piece.ensures (sym c.is_last.ensures ∙ c.if-is_last.false) c.in_ok-extend_from_slice.ensures.items

pub returns-then-is_last-clause-fed : goal.returns-then-is_last-clause-fed
returns-then-is_last-clause-fed c =
    finished (index_asks c.args.self.now) (index_asks c.finish.new.self) (option_copied c.args.part) _ c.finish.result
    (last_piece c.args.self.now.turn c.args.self.now.former c.args.self.now.left c.args.self.now.bytes.items c.extend_from_slice.new.self.items c.piece_of-piece.result.now (option_copied c.args.part) c.args.self.now.log
    c.requires.turn c.requires.asked c.args.self.now.some_left c.piece_of-piece.ensures c.in_ok-extend_from_slice.ensures.items (sym c.is_last.ensures ∙ c.if-is_last.true))
    c.finish.ensures.done

pub finish-requires-clause-open : goal.finish-requires-clause-open
finish-requires-clause-open c = not_loaded c.args.self.now.turn c.args.self.now.former c.args.self.now.left c.args.self.now.bytes.items (option_copied c.args.part) c.args.self.now.log c.requires.asked
