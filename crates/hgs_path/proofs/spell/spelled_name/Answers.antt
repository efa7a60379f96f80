use Rattle.std.proofs.Common.{◌∙◌, ap, ◌++◌, sym, arith}
use Rattle.hgs_path.specs.Theorems.PartLemmas.{spelled-step, spelled-last, split-length, one-more, at-end}
use Rattle.hgs_path.proofs.spell.spelled_name.Goals as goal

pub loop-part-smaller : goal.loop-part-smaller
loop-part-smaller c =
    let l = split-length 47 c.loop-part.rest.now _ (sym c.in-Some.ensures) in
    omega arith

pub loop-part-preserved : goal.loop-part-preserved
loop-part-preserved c =
    one-more c.loop-part.out.items _ _ _ _ _ _
    (c.in_ok-extend_from_slice.ensures.items ∙ ap (λ l. c.loop-part.out.items ++ l) (c.deref.ensures.value ∙ c.in_ok-spelled_component.ensures))
    c.in_ok-push.ensures.items
    (spelled-step c.args.form c.loop-part.rest.now _ (sym c.in-Some.ensures))
    c.loop-part.invariant

pub returns : goal.returns
returns c =
    at-end c.loop-part.out.items _ _ _ _
    (c.in_ok-extend_from_slice-2.ensures.items ∙ ap (λ l. c.loop-part.out.items ++ l) (c.deref-2.ensures.value ∙ c.in_ok-spelled_component-2.ensures))
    (spelled-last c.args.form c.loop-part.rest.now (sym c.in_default.ensures))
    c.loop-part.invariant
