use Rattle.hgs_writer.proofs.plan.committed.Goals as goal

pub returns-in-Ok-clause-sound : goal.returns-in-Ok-clause-sound
returns-in-Ok-clause-sound g c = λ t counted. c.commits_are_sound.ensures t c.args.loaded.changelog c.in-Ok.step.parts c.in-Ok.ensures.parts (counted c.in-Ok.ensures.separate)
