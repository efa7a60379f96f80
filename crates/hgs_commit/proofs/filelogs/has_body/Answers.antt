use Rattle.std.proofs.Common.{◌∙◌, ap}
use Rattle.hgs_bytes.specs.Bytes.{same}
use Rattle.hgs_commit.proofs.AnswerLemmas.{body-is}
use Rattle.hgs_commit.proofs.filelogs.has_body.Goals as goal

pub returns : goal.returns
returns c =
    c.equal.ensures
    ∙ ap (λ l. same l c.args.body.now) (c.past.ensures ∙ body-is c.args.text.now c.unpack.result.meta c.unpack.result.body c.unpack.ensures.body c.unpack.ensures.value)
