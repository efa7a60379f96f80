use Rattle.hgs_model.proofs.AnswerLemmas.{commit-answers}
use Rattle.hgs_model.proofs.answers.commit_answers.Goals as goal

pub returns : goal.returns
returns c = commit-answers
