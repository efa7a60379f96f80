use Rattle.std.proofs.Common.{◌≡◌, ◌<◌, ◌≤◌, ◌^◌, length, take, ◌∙◌, ap, subst, arith}
use Rattle.hgs_model.specs.Phase.{greater}
use Rattle.hgs_phases.specs.Phases.{AreFrontPublic, AreOwn, parent_phase, raised}
use Rattle.hgs_phases.proofs.FrontLemmas.{front_up}
use Rattle.hgs_phases.specs.Theorems.PhaseLemmas.{up_next, all_phases}
use Rattle.hgs_phases.proofs.roots.Roots.phases_of.Goals as goal

pub overflow_cast-first : goal.overflow_cast-first
overflow_cast-first c =
    let within = c.first_above-first.ensures.within in
    let n = c.len-count.ensures in
    let fits : c.len-count.result < 2 ^ 32 = c.len-count.type_inv in
    let count = ap length c.deref-2.ensures.value in
    let own = c.in_ok-phases.ensures.count in
    omega (arith, within, n, fits, count, own)

pub loop-rev-init : goal.loop-rev-init
loop-rev-init c =
    let same : c.deref-2.result.now ≡ c.in_ok-phases.phases.items = c.deref-2.ensures.value in
    front_up c.first_above-first.result c.args.self.now c.args.known.now.entries c.in_ok-phases.phases.items (subst (λ roots. AreOwn roots c.args.known.now.entries c.in_ok-phases.phases.items) (c.deref.ensures.value ∙ c.self.view_is) c.in_ok-phases.ensures)
    (subst (AreFrontPublic c.first_above-first.result) same c.first_above-first.ensures.below) (subst (λ l. c.first_above-first.result ≤ length l) same c.first_above-first.ensures.within)

pub loop-rev-preserved : goal.loop-rev-preserved
loop-rev-preserved c =
    let lt = c.loop-rev-test.true in
    let n = c.len-count.ensures in
    up_next c.loop-rev.rev c.args.self.now c.args.known.now.entries c.loop-rev.phases.items _ c.entry.result.now c.entry.ensures (omega (arith, lt, n)) c.loop-rev.invariant
    (c.raise.ensures
    ∙ ap (raised c.loop-rev.phases.items c.loop-rev.rev)
    (c.inherited-greatest.ensures ∙ ap (λ l. greater (parent_phase (take c.loop-rev.rev l) c.entry.result.now.p1) (parent_phase (take c.loop-rev.rev l) c.entry.result.now.p2)) c.deref-in-loop-rev.ensures.value))

pub returns : goal.returns
returns c = let past = c.loop-rev-test.false in let n = c.len-count.ensures in all_phases c.loop-rev.rev _ _ _ (omega (arith, past, n)) c.loop-rev.invariant
