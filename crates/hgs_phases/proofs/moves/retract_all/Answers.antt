use Rattle.std.proofs.Common.{take, ◌||◌, ◌∙◌, sym, ap, arith}
use Rattle.std.specs.Prelude.{◌==◌}
use Rattle.hgs_phases.specs.Moves.{is_marked}
use Rattle.hgs_phases.proofs.RetractLemmas.{raised_next, all_raised}
use Rattle.hgs_phases.proofs.moves.retract_all.Goals as goal

pub loop-child-preserved : goal.loop-child-preserved
loop-child-preserved c =
    let lt = c.loop-child-test.true in
    let n = c.len-child-end.ensures in
    raised_next c.loop-child.child c.args.known.now.entries c.args.rev c.args.to c.args.phases.now.items c.loop-child.phases.items _ c.loop-child.marks.items _ c.is_reached-reached.result c.entry.result.now
    c.entry.ensures (omega (arith, lt, n)) c.requires.phases c.loop-child.invariant
    (c.is_reached-reached.ensures ∙ ap (λ l. (c.args.rev == c.loop-child.child) || (is_marked (take c.loop-child.child l) c.entry.result.now.p1 || is_marked (take c.loop-child.child l) c.entry.result.now.p2)) c.deref.ensures.value)
    c.retract_one.ensures.phases c.retract_one.ensures.marks

pub returns-clause-phases : goal.returns-clause-phases
returns-clause-phases c =
    let past = c.loop-child-test.false in
    let n = c.len-child-end.ensures in
    let all = c.requires.phases in
    all_raised c.loop-child.child _ c.args.rev c.args.to c.args.phases.now.items c.loop-child.phases.items c.loop-child.marks.items (omega (arith, past, n, all)) c.loop-child.invariant

pub returns-clause-marks : goal.returns-clause-marks
returns-clause-marks c = c.loop-child.invariant.marked ∙ sym c.loop-child.invariant.count
