use Rattle.hgs_writer.proofs.OutcomeLemmas.{outcome-of}
use Rattle.hgs_writer.proofs.laws.calls_come_to_steps.Goals as goal

pub returns : goal.returns
returns c = outcome-of c.laws_below.ensures c.standing_trees_are_read.ensures
