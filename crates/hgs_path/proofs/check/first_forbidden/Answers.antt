use Rattle.std.proofs.Common.{◌≡◌, ◌+◌, ◌∙◌, ap, sym, Some, None, length, arith}
use Rattle.hgs_bytes.specs.Path.{components}
use Rattle.hgs_bytes.specs.Text.{split}
use Rattle.hgs_path.specs.Check.{forbidden_from}
use Rattle.hgs_path.specs.Theorems.PartLemmas.{forbidden-here, forbidden-step, forbidden-last, split-length}
use Rattle.hgs_path.proofs.check.first_forbidden.Goals as goal

pub returns-then-is_forbidden : goal.returns-then-is_forbidden
returns-then-is_forbidden c =
    let e : split 47 c.loop-part.rest.now ≡ Some (c.in-Some.part.now, c.in-Some.behind.now) = sym c.in-Some.ensures in
    sym (forbidden-here c.loop-part.start c.loop-part.rest.now _ e (sym c.is_forbidden.ensures ∙ c.if-is_forbidden.true)) ∙ c.loop-part.invariant.left

pub loop-part-smaller : goal.loop-part-smaller
loop-part-smaller c =
    let e : split 47 c.loop-part.rest.now ≡ Some (c.in-Some.part.now, c.in-Some.behind.now) = sym c.in-Some.ensures in
    let l = split-length 47 c.loop-part.rest.now _ e in
    omega arith

pub loop-part-preserved : goal.loop-part-preserved
loop-part-preserved c =
    let e : split 47 c.loop-part.rest.now ≡ Some (c.in-Some.part.now, c.in-Some.behind.now) = sym c.in-Some.ensures in
    let l = split-length 47 c.loop-part.rest.now _ e in
    let place : c.loop-part.start + length c.in-Some.part.now + 1 ≡ c.loop-part.start + (length c.in-Some.part.now + 1) = omega arith in
    record {
      left = ap (λ n. forbidden_from n (components c.in-Some.behind.now)) (sym place) ∙ sym (forbidden-step c.loop-part.start c.loop-part.rest.now _ e (sym c.is_forbidden.ensures ∙ c.if-is_forbidden.false)) ∙ c.loop-part.invariant.left;
      place = omega arith;
    }

pub returns-then-is_forbidden-2 : goal.returns-then-is_forbidden-2
returns-then-is_forbidden-2 c =
    let e : split 47 c.loop-part.rest.now ≡ None = sym c.in_default.ensures in
    let t = sym c.is_forbidden-2.ensures ∙ c.if-is_forbidden-2.true in
    sym (forbidden-last c.loop-part.start c.loop-part.rest.now e ∙ rw t) ∙ c.loop-part.invariant.left

pub returns-else-is_forbidden-2 : goal.returns-else-is_forbidden-2
returns-else-is_forbidden-2 c =
    let e : split 47 c.loop-part.rest.now ≡ None = sym c.in_default.ensures in
    let t = sym c.is_forbidden-2.ensures ∙ c.if-is_forbidden-2.false in
    sym (forbidden-last c.loop-part.start c.loop-part.rest.now e ∙ rw t) ∙ c.loop-part.invariant.left
