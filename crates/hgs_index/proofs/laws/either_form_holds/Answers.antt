use Rattle.hgs_index.specs.Theorems.EitherLemmas.{either-front, either-more, either-once, held-form, separate-holds}
use Rattle.hgs_index.proofs.laws.either_form_holds.Goals as goal

pub returns-clause-once : goal.returns-clause-once
returns-clause-once c = either-once

pub returns-clause-fronts : goal.returns-clause-fronts
returns-clause-fronts c = either-front

pub returns-clause-more : goal.returns-clause-more
returns-clause-more c = either-more

pub returns-clause-form : goal.returns-clause-form
returns-clause-form c = held-form

pub returns-clause-separate : goal.returns-clause-separate
returns-clause-separate c = separate-holds
