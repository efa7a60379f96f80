use Rattle.std.proofs.Common.{sym, ◌∙◌}
use Rattle.std.specs.Option.{option_copied}
use Rattle.hgs_load.proofs.MachineLemmas.{piece_asked}
use Rattle.hgs_load.proofs.load.LoadMachine.feed_late.Goals as goal

pub feed_index-requires-clause-asked : goal.feed_index-requires-clause-asked
feed_index-requires-clause-asked c =
    piece_asked c.args.self.now.index.turn c.args.self.now.index.former c.args.self.now.required c.args.self.now.bookmarks c.args.self.now.nodes c.args.self.now.index.left c.args.self.now.index.bytes.items c.args.self.now.index.log c.args.self.now.loaded (option_copied c.args.part)
    c.requires.required c.requires.bookmarks c.requires.nodes c.requires.loaded (sym c.is_whole.ensures ∙ c.if-is_whole.false) c.args.self.now.index.some_left c.requires.asked
