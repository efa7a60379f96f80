use Rattle.std.proofs.Common.{◌∙◌, ◌<◌, ◌||◌, None, true, ap, length, arith}
use Rattle.std.specs.Prelude.{slice_index_or}
use Rattle.hgs_phases.specs.Moves.{is_marked}
use Rattle.hgs_members.proofs.PassLemmas.{descend_done, descend_first, descend_next, parents_at, set-when-length}
use Rattle.hgs_members.proofs.passes.mark_descendants.Goals as goal

pub loop-rev-init : goal.loop-rev-init
loop-rev-init c = (c.requires, λ b. descend_first c.first-first.result c.args.history.now c.args.members.now b c.first-first.ensures.none c.requires)

pub loop-rev-preserved : goal.loop-rev-preserved
loop-rev-preserved c =
    let history = c.args.history.now in
    let n = c.loop-rev.rev in
    let e = slice_index_or history n (None, None) in
    let some = c.loop-rev-test.true in
    let counted = c.len-count.ensures in
    let low : n < length history = omega (arith, some, counted, c.requires) in (
      ap length c.descend.ensures ∙ set-when-length (is_marked c.loop-rev.members e.0 || is_marked c.loop-rev.members e.1) true c.loop-rev.members n ∙ c.loop-rev.invariant.0,
      λ b. descend_next n history c.args.members.now c.loop-rev.members c.descend.new.members e b (parents_at history n low) c.descend.ensures (c.loop-rev.invariant.1 b),
    )

pub returns-clause-exact : goal.returns-clause-exact
returns-clause-exact c = λ b. descend_done c.loop-rev.rev c.args.history.now c.args.members.now c.loop-rev.members (let past = c.loop-rev-test.false in let counted = c.len-count.ensures in omega (arith, past, counted, c.requires)) (c.loop-rev.invariant.1 b)
