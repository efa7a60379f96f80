use Rattle.std.proofs.Common.{◌∙◌, ◌<◌, None, ap, length, arith}
use Rattle.std.specs.Prelude.{slice_index_or}
use Rattle.hgs_members.proofs.PassLemmas.{head_done, head_first, head_next, headed-length, parents_at}
use Rattle.hgs_members.proofs.passes.keep_heads.Goals as goal

pub loop-rev-init : goal.loop-rev-init
loop-rev-init c = (c.requires, λ b. head_first c.first-first.result c.args.history.now c.args.members.now c.first-first.ensures.none c.requires)

pub loop-rev-preserved : goal.loop-rev-preserved
loop-rev-preserved c =
    let history = c.args.history.now in
    let n = c.loop-rev.rev in
    let e = slice_index_or history n (None, None) in
    let some = c.loop-rev-test.true in
    let top = c.end-end.ensures.top in
    let low : n < length history = omega (arith, some, top, c.requires) in (
      ap length c.head.ensures ∙ headed-length c.loop-rev.members n e ∙ c.loop-rev.invariant.0,
      λ b. head_next n history c.args.members.now c.loop-rev.members c.head.new.members e b (parents_at history n low) c.head.ensures (c.loop-rev.invariant.1 b),
    )

pub returns-clause-exact : goal.returns-clause-exact
returns-clause-exact c = λ b. head_done c.end-end.result c.loop-rev.rev c.args.history.now c.args.members.now c.loop-rev.members c.end-end.ensures.none c.loop-rev-test.false (c.loop-rev.invariant.1 b)
