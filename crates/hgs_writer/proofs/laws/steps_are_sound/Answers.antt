use Rattle.hgs_writer.proofs.StepLemmas.{step_sound}
use Rattle.hgs_writer.proofs.laws.steps_are_sound.Goals as goal

pub returns : goal.returns
returns c = step_sound
