use Rattle.hgs_steps.specs.Steps.{move_of}
use Rattle.hgs_writer.proofs.plan.moved.Goals as goal

pub returns-in-Ok-clause-sound : goal.returns-in-Ok-clause-sound
returns-in-Ok-clause-sound c = λ t. c.steps_are_sound.ensures t c.args.loaded.now (move_of c.args.loaded.now c.args.name.now c.args.to c.args.force) c.in-Ok.step c.in-Ok.ensures.step
