use Rattle.std.proofs.Common.{◌≡◌, ℕ, ◌<◌, ◌≤◌, ◌∙◌, sym, ap, subst, arith, length, get_or, List, [], ◌∷◌, ◌++◌, ◌+◌}
use Rattle.std.specs.Prelude.{None, false}
use Rattle.std.proofs.lemmas.Option.{slice_get-get_or}
use Rattle.hgs_judge.specs.declared.kinds.Standing.{Standing}
use Rattle.hgs_judge.specs.Kinds.{AreStandings, kinds_by, namings_in}
use Rattle.hgs_judge.proofs.KindsLemmas.{KindsSoFar, more-kinds, all-kinds}
use Rattle.hgs_judge.proofs.kinds.judge.Goals as goal

pub loop-rev-preserved : goal.loop-rev-preserved
loop-rev-preserved c =
    let rev = c.loop-rev.rev in
    let list : List Standing = c.deref-standing-items.result.now in
    let s : Standing = get_or list rev (record { first = None; is_given = false; is_wrong = false }) in
    let link : ℕ = get_or c.args.links.now rev 0 in
    let are : AreStandings (namings_in c.args.namings.now) c.args.parents.now list = subst (λ l. AreStandings (namings_in c.args.namings.now) c.args.parents.now l) (sym c.deref-standing-items.ensures.value) c.in_ok-standings.ensures in
    let within : rev < length list = c.loop-rev-test.true in
    let linked : rev < length c.args.links.now = (let a = are.count in let b = c.requires.links in omega (arith, a, b, within)) in
    let step = more-kinds (namings_in c.args.namings.now) c.args.parents.now c.args.links.now list c.loop-rev.kinds.items c.loop-rev.latest rev s link are c.loop-rev.invariant
    (slice_get-get_or list rev (record { first = None; is_given = false; is_wrong = false }) within) (slice_get-get_or c.args.links.now rev 0 linked) in
    let pushed : c.loop-rev.kinds.items ++ kinds_by s link c.loop-rev.latest ∷ [] ≡ c.push.new.self.items = sym (c.in_ok-push.ensures.items ∙ ap (λ k. c.loop-rev.kinds.items ++ k ∷ []) c.kinds.ensures) in
    subst (λ l. KindsSoFar (namings_in c.args.namings.now) c.args.parents.now c.args.links.now l c.later-latest.result (rev + 1)) pushed
    (subst (λ l. KindsSoFar (namings_in c.args.namings.now) c.args.parents.now c.args.links.now (c.loop-rev.kinds.items ++ kinds_by s link c.loop-rev.latest ∷ []) l (rev + 1)) (sym c.later-latest.ensures) step)

pub returns : goal.returns
returns c =
    all-kinds (namings_in c.args.namings.now) c.args.parents.now c.args.links.now c.loop-rev.kinds.items c.loop-rev.latest c.loop-rev.rev c.loop-rev.invariant
    (let past : length c.deref-standing-items.result.now ≤ c.loop-rev.rev = c.loop-rev-test.false in
    let end : c.loop-rev.rev ≤ length c.deref-standing-items.result.now = c.loop-rev.auto.rev-end in
    let v : length c.deref-standing-items.result.now ≡ length c.in_ok-standings.standings.items = ap length c.deref-standing-items.ensures.value in
    let n : length c.in_ok-standings.standings.items ≡ length c.args.parents.now = c.in_ok-standings.ensures.count in
    omega (arith, past, end, v, n))
