use Rattle.hgs_write_examples.proofs.beside.commit_of.Goals as goal

pub returns-in-Ok : goal.returns-in-Ok
returns-in-Ok c = (c.read_records_are_records.ensures c.args.record.now c.in-Ok.change c.in-Ok.ensures).valid
