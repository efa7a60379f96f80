use Rattle.hgs_steps.proofs.NameLemmas.{named-all-same, named-same}
use Rattle.hgs_steps.proofs.ViewLemmas.{holds-is}
use Rattle.hgs_steps.proofs.laws.names_agree.Goals as goal

pub returns-clause-one : goal.returns-clause-one
returns-clause-one c = λ t r l name s h. named-same c.laws_below.ensures t r l name s (holds-is c.laws_below.ensures t r l s h)

pub returns-clause-parents : goal.returns-clause-parents
returns-clause-parents c = λ t r l names s h. named-all-same c.laws_below.ensures t r l names s (holds-is c.laws_below.ensures t r l s h)
