use Rattle.std.proofs.Common.{◌∙◌, ap, ◌++◌, sym, arith}
use Rattle.hgs_path.specs.ListedNames.{unmarked_directory}
use Rattle.hgs_path.specs.Theorems.PartLemmas.{front-step, front-last, split-length, one-more, at-end}
use Rattle.hgs_path.proofs.fncache.undone_step.Goals as goal

pub loop-directory-smaller : goal.loop-directory-smaller
loop-directory-smaller c =
    let l = split-length 47 c.loop-directory.rest.now _ (sym c.in-Some.ensures) in
    omega arith

pub loop-directory-preserved : goal.loop-directory-preserved
loop-directory-preserved c =
    one-more c.loop-directory.out.items _ _ _ _ _ _
    (c.in_ok-extend_from_slice.ensures.items ∙ ap (λ l. c.loop-directory.out.items ++ l) c.unmarked_directory.ensures)
    c.in_ok-push.ensures.items
    (front-step unmarked_directory c.loop-directory.rest.now _ (sym c.in-Some.ensures))
    c.loop-directory.invariant

pub returns : goal.returns
returns c =
    at-end c.loop-directory.out.items _ _ _ _
    c.in_ok-extend_from_slice-2.ensures.items
    (front-last unmarked_directory c.loop-directory.rest.now (sym c.in_default.ensures))
    c.loop-directory.invariant
