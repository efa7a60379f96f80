use Rattle.hgs_writer.specs.Joined.{joined_paths}
use Rattle.hgs_writer.proofs.ShapeLemmas.{assembled-answer, carried-answer}
use Rattle.hgs_writer.proofs.import.import.Goals as goal

pub returns-clause-ready : goal.returns-clause-ready
returns-clause-ready g c = assembled-answer c.args.changes.now c.replace_with.result c.requires.valid c.replace_with.ensures.1.0

pub returns-clause-sound : goal.returns-clause-sound
returns-clause-sound g c = carried-answer c.args.changes.now c.replace_with.result c.replace_with.ensures.1.0
