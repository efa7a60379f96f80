use Rattle.std.proofs.Common.{sym, ◌∙◌, ap}
use Rattle.std.specs.Option.{option_copied}
use Rattle.hgs_load.proofs.MachineLemmas.{next_index}
use Rattle.hgs_load.proofs.load.LoadMachine.next_late.Goals as goal

pub returns-in-None : goal.returns-in-None
returns-in-None c =
    let m = c.args.self.now in
    next_index m.index.turn m.index.former m.required m.bookmarks m.nodes m.index.left m.index.bytes.items m.index.log m.loaded c.index.result c.place.result c.most.result
    c.requires.required c.requires.bookmarks c.requires.nodes c.requires.loaded m.index.some_left (sym c.log.ensures ∙ ap option_copied c.in-None.is) c.index.ensures c.place.ensures c.most.ensures
