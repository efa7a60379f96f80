use Rattle.hgs_load.proofs.MachineLemmas.{not_ended}
use Rattle.hgs_load.proofs.load.LoadMachine.take.Goals as goal

pub unreachable-requires : goal.unreachable-requires
unreachable-requires c =
    let m = c.args.self in
    not_ended m.index.turn m.index.former m.required m.bookmarks m.nodes m.index.left m.index.bytes.items m.index.log m.loaded m.index.some_left c.in-None.is c.requires
