use Rattle.hgs_steps.proofs.AnswerLemmas.{move-answers}
use Rattle.hgs_steps.proofs.ViewLemmas.{holds-is}
use Rattle.hgs_steps.proofs.laws.phase_commands_agree.Goals as goal

pub returns : goal.returns
returns c = λ t r l name to force s h. move-answers c.laws_below.ensures t r l name to force s h (holds-is c.laws_below.ensures t r l s h)
