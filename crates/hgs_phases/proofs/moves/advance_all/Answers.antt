use Rattle.std.proofs.Common.{◌≡◌, ◌∙◌, ◌+◌, ◌-◌, sym, length, subst, arith}
use Rattle.hgs_phases.specs.Phases.{history_of}
use Rattle.hgs_phases.specs.Theorems.PhaseLemmas.{history-length}
use Rattle.hgs_phases.specs.Theorems.AdvanceLemmas.{Lowered, lowered_none, lowered_next, all_lowered}
use Rattle.hgs_phases.proofs.moves.advance_all.Goals as goal

pub loop-ancestor-init : goal.loop-ancestor-init
loop-ancestor-init c =
    let long = history-length c.args.known.now.entries in
    let stands = c.requires.stands in
    lowered_none (c.args.rev + 1) (history_of c.args.known.now.entries) c.args.rev c.args.to c.args.phases.now.items c.mark_only.new.marks.items (length c.args.marks.now.items) (omega arith)
    (omega (arith, long, stands)) (c.requires.marks ∙ sym c.requires.phases) (c.requires.phases ∙ sym long) c.mark_only.ensures

pub loop-ancestor-preserved : goal.loop-ancestor-preserved
loop-ancestor-preserved c =
    let long = history-length c.args.known.now.entries in
    let stands = c.requires.stands in
    let within = c.loop-ancestor.auto.ancestor in
    let next : c.loop-ancestor.ancestor ≡ c.loop-ancestor.ancestor - 1 + 1 = omega arith in
    subst (λ m. Lowered m (history_of c.args.known.now.entries) c.args.rev c.args.to c.args.phases.now.items c.advance_one.new.phases.items c.advance_one.new.marks.items) next
    (lowered_next c.loop-ancestor.ancestor c.args.known.now.entries c.args.rev c.args.to c.args.phases.now.items c.loop-ancestor.phases.items _ c.loop-ancestor.marks.items _ c.entry.result.now
    c.entry.ensures within (omega (arith, long, stands)) (c.requires.phases ∙ sym long) c.loop-ancestor.invariant c.advance_one.ensures.phases c.advance_one.ensures.marks)

pub returns-2-clause-phases : goal.returns-2-clause-phases
returns-2-clause-phases c =
    let long = history-length c.args.known.now.entries in
    let stands = c.requires.stands in
    let within = c.loop-ancestor.auto.ancestor in
    let last : c.loop-ancestor.ancestor ≡ 0 = omega arith in
    all_lowered c.loop-ancestor.ancestor (history_of c.args.known.now.entries) c.args.rev c.args.to c.args.phases.now.items _ c.advance_one.new.marks.items last
    (lowered_next c.loop-ancestor.ancestor c.args.known.now.entries c.args.rev c.args.to c.args.phases.now.items c.loop-ancestor.phases.items _ c.loop-ancestor.marks.items _ c.entry.result.now
    c.entry.ensures within (omega (arith, long, stands)) (c.requires.phases ∙ sym long) c.loop-ancestor.invariant c.advance_one.ensures.phases c.advance_one.ensures.marks)
