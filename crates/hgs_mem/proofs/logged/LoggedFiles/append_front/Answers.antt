use Rattle.hgs_mem.proofs.PieceLemmas.{append-parts}
use Rattle.hgs_mem.proofs.logged.LoggedFiles.append_front.Goals as goal

pub returns-clause-part : goal.returns-clause-part
returns-clause-part c =
    append-parts c.append.result c.args.self.now.log.items c.append.new.self.log.items c.args.path.now c.args.bytes.now c.front-part.result.now c.args.count c.front-part.ensures c.append.ensures.done
