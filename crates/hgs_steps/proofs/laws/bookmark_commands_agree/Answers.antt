use Rattle.hgs_steps.proofs.AnswerLemmas.{mark-answers, unmark-answers}
use Rattle.hgs_steps.proofs.ViewLemmas.{holds-is}
use Rattle.hgs_steps.proofs.laws.bookmark_commands_agree.Goals as goal

pub returns-clause-set : goal.returns-clause-set
returns-clause-set c = λ t r l mark name s h. mark-answers c.laws_below.ensures t r l mark name s h (holds-is c.laws_below.ensures t r l s h)

pub returns-clause-deleted : goal.returns-clause-deleted
returns-clause-deleted c = λ t r l mark s h. unmark-answers c.laws_below.ensures t r l mark s h (holds-is c.laws_below.ensures t r l s h)
