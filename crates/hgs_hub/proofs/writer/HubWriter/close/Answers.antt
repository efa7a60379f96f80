use Rattle.std.proofs.Common.{rules, List, subst}
use Rattle.hgs_files.specs.declared.op.Op.{Op}
use Rattle.hgs_hub.specs.New.{AllWithin}
use Rattle.hgs_hub.specs.Told.{front_log}
use Rattle.hgs_hub.proofs.writer.HubWriter.close.Goals as goal

pub returns-in-Ok-clause-within : goal.returns-in-Ok-clause-within
returns-in-Ok-clause-within g c =
    let s = c.args.self in
    let within : AllWithin (front_log s.book.front) c.args.rs.items = c.settle-settled.ensures.within (search rules) in
    subst (λ (l : List Op). AllWithin l c.args.rs.items) s.fronted within
