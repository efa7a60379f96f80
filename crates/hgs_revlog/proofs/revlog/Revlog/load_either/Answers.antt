use Rattle.std.proofs.Common.{sym, ◌∙◌, subst}
use Rattle.hgs_bytes.specs.Answer.{Gives}
use Rattle.hgs_revlog.specs.Fault.{is_memory}
use Rattle.hgs_revlog.proofs.FormLemmas.{separate-loads}
use Rattle.hgs_revlog.proofs.revlog.Revlog.load_either.Goals as goal

pub returns-else-is_inline : goal.returns-else-is_inline
returns-else-is_inline c =
    subst (Gives is_memory (λ log. log) c.load.result) (sym (separate-loads c.args.tail c.args.index.now (sym c.is_inline.ensures ∙ c.if-is_inline.false))) c.load.ensures
