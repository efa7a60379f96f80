use Rattle.hgs_write_examples.proofs.sessions.script_of.Goals as goal

pub returns-in-Ok : goal.returns-in-Ok
returns-in-Ok c = c.read_scripts_can_be_run.ensures c.args.text.now c.in-Ok.script c.in-Ok.ensures
