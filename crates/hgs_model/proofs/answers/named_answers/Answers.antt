use Rattle.hgs_model.proofs.AnswerLemmas.{move-answers, mark-answers, unmark-answers}
use Rattle.hgs_model.proofs.answers.named_answers.Goals as goal

pub returns-clause-moved : goal.returns-clause-moved
returns-clause-moved c = move-answers

pub returns-clause-marked : goal.returns-clause-marked
returns-clause-marked c = mark-answers

pub returns-clause-unmarked : goal.returns-clause-unmarked
returns-clause-unmarked c = unmark-answers
