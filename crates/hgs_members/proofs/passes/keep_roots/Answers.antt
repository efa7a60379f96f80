use Rattle.std.proofs.Common.{◌≡◌, ◌∙◌, ◌+◌, ◌-◌, ◌<◌, ◌||◌, None, false, ap, subst, length, arith}
use Rattle.std.specs.Prelude.{slice_index_or}
use Rattle.hgs_phases.specs.Moves.{is_marked}
use Rattle.hgs_members.proofs.PassLemmas.{Rooted, parents_at, root_done, root_first, root_next, set-when-length}
use Rattle.hgs_members.proofs.passes.keep_roots.Goals as goal

pub loop-rev-init : goal.loop-rev-init
loop-rev-init c = (c.requires, λ b. root_first c.end-end.result c.args.history.now c.args.members.now c.end-end.ensures.none c.requires)

pub loop-rev-preserved : goal.loop-rev-preserved
loop-rev-preserved c =
    let history = c.args.history.now in
    let n = c.loop-rev.rev - 1 in
    let e = slice_index_or history n (None, None) in
    let some = c.loop-rev-test.true in
    let near = c.loop-rev.auto.rev in
    let top = c.end-end.ensures.top in
    let low : n < length history = omega (arith, some, near, top, c.requires) in
    let next : c.loop-rev.rev ≡ c.loop-rev.rev - 1 + 1 = omega (arith, some) in (
      ap length c.root.ensures ∙ set-when-length (is_marked c.loop-rev.members e.0 || is_marked c.loop-rev.members e.1) false c.loop-rev.members n ∙ c.loop-rev.invariant.0,
      λ b. root_next n history c.args.members.now c.loop-rev.members c.root.new.members e b (parents_at history n low) c.root.ensures (subst (λ m. Rooted m history c.args.members.now c.loop-rev.members) next (c.loop-rev.invariant.1 b)),
    )

pub returns-clause-exact : goal.returns-clause-exact
returns-clause-exact c = λ b. root_done c.first-first.result c.loop-rev.rev c.args.history.now c.args.members.now c.loop-rev.members c.first-first.ensures.none c.loop-rev-test.false (c.loop-rev.invariant.1 b)
