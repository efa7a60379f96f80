use Rattle.hgs_index.specs.Theorems.RevlogFrontLemmas.{begins-front}
use Rattle.hgs_index.specs.Theorems.RevlogLemmas.{begins-more, held-begins}
use Rattle.hgs_index.proofs.laws.lists_begin.Goals as goal

pub returns-clause-held : goal.returns-clause-held
returns-clause-held c = held-begins

pub returns-clause-fronts : goal.returns-clause-fronts
returns-clause-fronts c = begins-front

pub returns-clause-more : goal.returns-clause-more
returns-clause-more c = begins-more
