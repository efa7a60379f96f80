use Rattle.hgs_index.specs.Theorems.InlineLemmas.{apart-held, fronts-separate, held-apart, held-plain, inline-unique}
use Rattle.hgs_index.proofs.laws.inline_taken_apart.Goals as goal

pub returns-clause-apart : goal.returns-clause-apart
returns-clause-apart c = held-apart

pub returns-clause-back : goal.returns-clause-back
returns-clause-back c = apart-held

pub returns-clause-one : goal.returns-clause-one
returns-clause-one c = inline-unique

pub returns-clause-separate : goal.returns-clause-separate
returns-clause-separate c = held-plain

pub returns-clause-fronts : goal.returns-clause-fronts
returns-clause-fronts c = fronts-separate
