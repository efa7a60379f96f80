use Rattle.std.proofs.Common.{◌≡◌, false, sym, ◌∙◌, subst}
use Rattle.hgs_commit.specs.Known.{AreFreeOf, IsKept, is_touched}
use Rattle.hgs_commit.specs.declared.known.KnownFile.{KnownFile}
use Rattle.hgs_commit.proofs.KnownLemmas.{all-pushed}
use Rattle.hgs_commit.proofs.known.Known.keep.Goals as goal

pub returns-clause-before : goal.returns-clause-before
returns-clause-before c = λ t h is.
    subst (AreFreeOf t c.args.changes.now) (sym c.in_ok-push.ensures.items)
    (all-pushed (λ (x : KnownFile). IsKept t x × (is_touched c.args.changes.now x.paths ≡ false)) c.args.self.now.before.items c.args.known h (is, sym c.is_touched.ensures ∙ c.if-is_touched.false))
