use Rattle.hgs_input.proofs.FoundLemmas.{last_ends}
use Rattle.hgs_input.proofs.line.ends_in.Goals as goal

pub returns-in-Some : goal.returns-in-Some
returns-in-Some c = last_ends c.args.byte c.args.text.now c.in-Some.last.now c.in-Some.ensures.value
