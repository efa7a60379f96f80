use Rattle.hgs_reader.proofs.TreeLemmas.{separate-at-rest, separate-at-moments, separate-held}
use Rattle.hgs_reader.proofs.laws.separate_texts_are_asked.Goals as goal

pub returns-clause-rest : goal.returns-clause-rest
returns-clause-rest c = separate-at-rest c.inline_taken_apart.ensures.fronts

pub returns-clause-moments : goal.returns-clause-moments
returns-clause-moments c = separate-at-moments c.inline_taken_apart.ensures.fronts

pub returns-clause-found : goal.returns-clause-found
returns-clause-found c = separate-held
