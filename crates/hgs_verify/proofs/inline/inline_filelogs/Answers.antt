use Rattle.std.proofs.Common.{◌∙◌, subst, arith}
use Rattle.hgs_verify.specs.Inline.{EntersInline}
use Rattle.hgs_verify.proofs.FileLemmas.{two-looks}
use Rattle.hgs_verify.proofs.InlineLemmas.{Entered, one-entered}
use Rattle.hgs_verify.proofs.inline.inline_filelogs.Goals as goal

pub loop-path-preserved : goal.loop-path-preserved
loop-path-preserved g c =
    let i = c.loop-path.invariant in
    let one = c.in_ok-enter_inline.ensures in
    let paths = c.args.paths.now.keys in
    let path = c.in-Some.path.now in
    let old = c.loop-path.inline.keys in
    let new = c.enter_inline.new.inline.keys in
    let left = c.next.new.self in
    record {
      entered = λ alone.
          two-looks (g.R.Reads.seen c.loop-path.files) (g.R.Reads.seen c.enter_inline.new.files) (g.R.Reads.start c.loop-path.files) (g.R.Reads.start c.enter_inline.new.files)
          (Entered paths old c.loop-path.path-iterator) (EntersInline c.as_slice.result.now old new) (Entered paths new left)
          (one.still alone) one.same_start
          (λ t p q. one-entered paths left c.loop-path.path-iterator path old new t c.in-Some.ensures.steps p (subst (λ x. EntersInline x old new t) c.as_slice.ensures q))
          (i.entered alone) (one.entered alone);
      same_start = one.same_start ∙ i.same_start;
      still = λ alone. one.still alone ∙ i.still alone;
      later = (let a = i.later in let b = one.cause.later in omega (arith, a, b));
      refused = (let a = i.refused in let b = one.cause.refused in omega (arith, a, b));
    }
