use Rattle.std.proofs.Common.{◌≡◌, ◌∙◌, ◌+◌, ◌-◌, ◌<◌, None, ap, subst, length, arith}
use Rattle.std.specs.Prelude.{slice_index_or}
use Rattle.hgs_members.proofs.PassLemmas.{Climbed, climb_done, climb_first, climb_next, climbed-length, parents_at}
use Rattle.hgs_members.proofs.passes.mark_ancestors.Goals as goal

pub loop-rev-init : goal.loop-rev-init
loop-rev-init c = (c.requires, λ b. climb_first c.end-end.result c.args.history.now c.args.members.now c.end-end.ensures.none c.requires)

pub loop-rev-preserved : goal.loop-rev-preserved
loop-rev-preserved c =
    let history = c.args.history.now in
    let n = c.loop-rev.rev - 1 in
    let e = slice_index_or history n (None, None) in
    let some = c.loop-rev-test.true in
    let near = c.loop-rev.auto.rev in
    let top = c.end-end.ensures.top in
    let low : n < length history = omega (arith, some, near, top, c.requires) in
    let next : c.loop-rev.rev ≡ c.loop-rev.rev - 1 + 1 = omega (arith, some) in (
      ap length c.climb.ensures ∙ climbed-length c.loop-rev.members n e ∙ c.loop-rev.invariant.0,
      λ b. climb_next n history c.args.members.now c.loop-rev.members c.climb.new.members e b (parents_at history n low) c.climb.ensures (subst (λ m. Climbed m history c.args.members.now c.loop-rev.members) next (c.loop-rev.invariant.1 b)),
    )

pub returns-clause-exact : goal.returns-clause-exact
returns-clause-exact c = λ b. climb_done c.loop-rev.rev c.args.history.now c.args.members.now c.loop-rev.members (let past = c.loop-rev-test.false in omega (arith, past)) (c.loop-rev.invariant.1 b)
