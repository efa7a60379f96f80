use Rattle.hgs_mem.proofs.PieceLemmas.{create-parts}
use Rattle.hgs_mem.proofs.logged.LoggedFiles.create_front.Goals as goal

pub returns-clause-part : goal.returns-clause-part
returns-clause-part c =
    create-parts c.create.result c.args.self.now.log.items c.create.new.self.log.items c.args.path.now c.args.bytes.now c.front-part.result.now c.args.count c.front-part.ensures c.create.ensures.ok
