use Rattle.hgs_shown.proofs.AnswerLemmas.{line-asked}
use Rattle.hgs_shown.proofs.laws.lines_of_changesets.Goals as goal

pub returns : goal.returns
returns c = line-asked
