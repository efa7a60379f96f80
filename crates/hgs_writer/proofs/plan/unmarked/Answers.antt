use Rattle.hgs_steps.specs.Steps.{unmark_of}
use Rattle.hgs_writer.proofs.plan.unmarked.Goals as goal

pub returns-in-Ok-clause-sound : goal.returns-in-Ok-clause-sound
returns-in-Ok-clause-sound c = λ t. c.steps_are_sound.ensures t c.args.loaded.now (unmark_of c.args.loaded.now c.args.name.now) c.in-Ok.step c.in-Ok.ensures.step
