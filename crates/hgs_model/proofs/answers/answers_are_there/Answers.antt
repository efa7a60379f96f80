use Rattle.hgs_model.proofs.AnswerLemmas.{answers-there}
use Rattle.hgs_model.proofs.answers.answers_are_there.Goals as goal

pub returns : goal.returns
returns c = answers-there
