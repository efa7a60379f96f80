use Rattle.std.proofs.Common.{◌∙◌, sym, arith}
use Rattle.hgs_path.specs.Theorems.PartLemmas.{last-step, last-last, split-length}
use Rattle.hgs_path.proofs.parts.last_part.Goals as goal

pub loop-behind-smaller : goal.loop-behind-smaller
loop-behind-smaller c =
    let l = split-length 47 c.loop-behind.rest.now _ (sym c.in-Some.ensures) in
    omega arith

pub loop-behind-preserved : goal.loop-behind-preserved
loop-behind-preserved c = sym (last-step c.loop-behind.rest.now _ (sym c.in-Some.ensures)) ∙ c.loop-behind.invariant

pub returns : goal.returns
returns c = sym (last-last c.loop-behind.rest.now (sym c.in_default.ensures)) ∙ c.loop-behind.invariant
