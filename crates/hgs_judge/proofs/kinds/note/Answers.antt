use Rattle.std.proofs.Common.{◌≡◌, ◌<◌, ◌∙◌, sym, ap, subst, arith, length, get_or, set, ◌++◌, ◌∷◌, []}
use Rattle.std.specs.Prelude.{Some, None, false}
use Rattle.std.proofs.lemmas.Option.{slice_get-get_or, slice_get_past}
use Rattle.hgs_index.specs.Revision.{Parents}
use Rattle.hgs_findings.specs.Namings as findings
use Rattle.hgs_judge.specs.declared.kinds.Standing.{Standing}
use Rattle.hgs_judge.specs.Kinds.{AreStandings, rule_in, with_naming}
use Rattle.hgs_judge.proofs.KindsLemmas.{one-noted, past-noted}
use Rattle.hgs_judge.proofs.kinds.note.Goals as goal

pub returns-then-rev-parents : goal.returns-then-rev-parents
returns-then-rev-parents c = λ front count are.
    let rev = c.args.naming.now.rev in
    let rule = rule_in c.args.naming.now.rule in
    let n : findings.Naming = record { rev = rev; rule = rule } in
    let p : Parents = get_or c.args.parents.now rev (None, None) in
    let s : Standing = get_or c.args.standings.now rev (record { first = None; is_given = false; is_wrong = false }) in
    let within : rev < length c.args.parents.now = c.if-rev-parents.true in
    let e : with_naming s (length front) rev p rule ≡ c.with.result = ap (λ k. with_naming s k rev p rule) count ∙ sym c.with.ensures in
    subst (λ x. AreStandings (front ++ Some n ∷ []) c.args.parents.now (set c.args.standings.now rev x)) e
    (one-noted front n c.args.parents.now c.args.standings.now p s are
    (slice_get-get_or c.args.parents.now rev (None, None) within)
    (slice_get-get_or c.args.standings.now rev (record { first = None; is_given = false; is_wrong = false }) (let l = c.requires in omega (arith, l, within))))

pub returns-else-rev-parents : goal.returns-else-rev-parents
returns-else-rev-parents c = λ front count are.
    past-noted front (record { rev = c.args.naming.now.rev; rule = rule_in c.args.naming.now.rule }) c.args.parents.now c.args.standings.now are (slice_get_past c.args.parents.now c.args.naming.now.rev (let l = c.if-rev-parents.false in omega (arith, l)))
