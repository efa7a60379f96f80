use Rattle.std.proofs.Common.{◌≡◌, ◌∙◌, ◌<◌, ℕ, Bool, eqb, false, true, sym, ap, subst, length, arith}
use Rattle.std.proofs.lemmas.List.{length-replicate}
use Rattle.std.specs.Prelude.{◌==◌, replicate, slice_set, slice_index_or, if◌then◌else◌}
use Rattle.hgs_model.specs.declared.phase.Phase.TheVariants.{Public}
use Rattle.hgs_model.specs.Phase.{phase_number}
use Rattle.hgs_members.proofs.EachLemmas.{Changed, changed_all, changed_first, changed_when, got}
use Rattle.hgs_members.proofs.members.Members.in_phase.Goals as goal

pub loop-rev-init : goal.loop-rev-init
loop-rev-init c =
    let phases = c.args.phases.now in
    let f : ℕ → Bool = λ i. phase_number (slice_index_or phases i Public) == phase_number c.args.phase in
    let made = c.in_ok-members.ensures ∙ ap (λ n. replicate n false) c.len-count.ensures in
    subst (λ ms. Changed false 0 f (replicate (length phases) false) ms) (sym made) (changed_first false f (replicate (length phases) false))

pub loop-rev-preserved : goal.loop-rev-preserved
loop-rev-preserved c =
    let phases = c.args.phases.now in
    let f : ℕ → Bool = λ i. phase_number (slice_index_or phases i Public) == phase_number c.args.phase in
    let rev = c.loop-rev.rev in
    let members = c.loop-rev.members in
    let test = c.loop-rev-test.true in
    let counted = c.len-count.ensures in
    let kept = c.loop-rev.invariant.count in
    let all = length-replicate {A = Bool} (length phases) false in
    let low : rev < length members = omega (arith, test, counted, kept, all) in
    let here : eqb c.number.result c.number-in-loop-rev.result ≡ f rev =
    ap (λ n. eqb n c.number-in-loop-rev.result) (c.number.ensures ∙ ap phase_number (sym (got phases rev c.get.result Public c.get.ensures))) ∙ ap (λ n. eqb (phase_number (slice_index_or phases rev Public)) n) c.number-in-loop-rev.ensures in
    changed_when rev f (length phases) members c.add_when.new.self low (c.add_when.ensures ∙ ap (λ b. if b then slice_set members rev true else members) here) c.loop-rev.invariant

pub returns : goal.returns
returns c = changed_all (λ p. phase_number p == phase_number c.args.phase) c.args.phases.now Public c.loop-rev.rev c.loop-rev.members (let past = c.loop-rev-test.false in let n = c.len-count.ensures in omega (arith, past, n)) c.loop-rev.invariant
