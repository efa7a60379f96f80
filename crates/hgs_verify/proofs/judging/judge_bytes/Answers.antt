use Rattle.std.proofs.Common.{List, ◌∙◌, ap, subst}
use Rattle.hgs_findings.specs.OnePath.{Word}
use Rattle.hgs_judge.specs.Path.{IsJudged}
use Rattle.hgs_judge.specs.Words.{words_in}
use Rattle.hgs_verify.proofs.judging.judge_bytes.Goals as goal

pub returns-in-Ok-clause-found : goal.returns-in-Ok-clause-found
returns-in-Ok-clause-found c = λ t is.
    let path = c.args.path.now in
    subst (λ (l : List Word). IsJudged c.args.index.now c.args.chunks.now l c.in-Ok.found) (ap (words_in path) c.deref.ensures.value ∙ c.in_ok-words.ensures.said t is) (c.in-Ok.ensures.ok path)
