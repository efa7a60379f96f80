use Rattle.hgs_load.proofs.FeedLemmas.{index_open}
use Rattle.hgs_load.proofs.pieces.IndexLoad.take.Goals as goal

pub unreachable-requires : goal.unreachable-requires
unreachable-requires c =
    let m = c.args.self in
    index_open m.turn m.former m.left m.bytes.items m.log m.some_left c.in-None.is c.requires
