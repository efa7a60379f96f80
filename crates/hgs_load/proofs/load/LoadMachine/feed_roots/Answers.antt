use Rattle.std.specs.Option.{option_copied}
use Rattle.hgs_load.proofs.MachineLemmas.{roots_refused}
use Rattle.hgs_load.proofs.load.LoadMachine.feed_roots.Goals as goal

pub returns-in-Err-clause-fed : goal.returns-in-Err-clause-fed
returns-in-Err-clause-fed c =
    roots_refused c.args.self.now.index.turn c.args.self.now.index.former c.args.self.now.required c.args.self.now.bookmarks c.args.self.now.nodes c.args.self.now.index.left c.args.self.now.index.bytes.items c.args.self.now.index.log c.args.self.now.loaded (option_copied c.args.part) c.in-Err.refusal
    c.requires.required c.requires.bookmarks c.requires.nodes c.requires.loaded c.requires.whole c.in-Err.ensures.answer
