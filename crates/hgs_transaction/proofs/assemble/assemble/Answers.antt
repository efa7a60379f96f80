use Rattle.std.proofs.Common.{subst, arith}
use Rattle.hgs_transaction.specs.Assembled.{IsPlanOf}
use Rattle.hgs_transaction.specs.Gathered.{IsPlanFrom}
use Rattle.hgs_transaction.specs.Parts.{length_before}
use Rattle.hgs_transaction.proofs.PlanLemmas.{fits, if-ok, planned}
use Rattle.hgs_transaction.proofs.assemble.assemble.Goals as goal

pub plan_of-requires-clause-backups : goal.plan_of-requires-clause-backups
plan_of-requires-clause-backups c = (fits c.args.parts c.in_ok-gathered.gathered c.in_ok-gathered.ensures.holds).backups

pub plan_of-requires-clause-few : goal.plan_of-requires-clause-few
plan_of-requires-clause-few c =
    let most = (fits c.args.parts c.in_ok-gathered.gathered c.in_ok-gathered.ensures.holds).few in
    omega arith

pub returns : goal.returns
returns c =
    if-ok (λ plan. IsPlanFrom c.in_ok-gathered.gathered c.len-published.result c.length_before-before.result plan) (λ plan. IsPlanOf c.args.parts plan) c.plan_of.result c.plan_of.ensures
    (λ plan made. planned c.args.parts c.in_ok-gathered.gathered plan c.in_ok-gathered.ensures.holds (subst (λ n. IsPlanFrom c.in_ok-gathered.gathered n (length_before c.args.parts.publishing) plan) c.len-published.ensures (subst (λ n. IsPlanFrom c.in_ok-gathered.gathered c.len-published.result n plan) c.length_before-before.ensures made)))
