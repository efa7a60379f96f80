use Rattle.std.proofs.Common.{Result, subst}
use Rattle.hgs_bytes.specs.Answer.{Gives}
use Rattle.hgs_revlog.specs.Fault.{is_memory}
use Rattle.hgs_revlog.specs.declared.fault.RevFault.{RevFault}
use Rattle.hgs_commit.specs.declared.growth.Revised.{Revised}
use Rattle.hgs_commit.proofs.AnswerLemmas.{refused-so}
use Rattle.hgs_commit.proofs.filelogs.answer_of.Goals as goal

pub returns-in-Err-clause-answer : goal.returns-in-Err-clause-answer
returns-in-Err-clause-answer c = λ given h.
    let P : Result Revised RevFault → Type 0 = λ r. Gives is_memory (λ (x : Revised). x) r given in
    refused-so c.args.paths.now.index c.in-Err.fault c.of_revlog.result given c.of_revlog.ensures.refusal (subst P c.in-Err.is h)
