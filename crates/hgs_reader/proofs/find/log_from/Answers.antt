use Rattle.hgs_revlog.specs.declared.fault.Tail.TheVariants.{Until}
use Rattle.hgs_reader.proofs.find.log_from.Goals as goal

pub returns-in-Ok-clause-small : goal.returns-in-Ok-clause-small
returns-in-Ok-clause-small c = (c.loaded_entries.ensures.entries (Until c.args.node.now) c.args.bytes.now c.in-Ok.log c.in-Ok.ensures).texts
