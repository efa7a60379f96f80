use Rattle.std.proofs.Common.{take, drop, ◌+◌, ◌-◌, ◌∙◌, sym, subst, arith}
use Rattle.hgs_index.specs.Theorems.AncestorTestLemmas.{is_ancestor-decides}
use Rattle.hgs_model.specs.Theorems.ReachedLemmas.{Walk, walk-begins, walk-ends, not-before}
use Rattle.hgs_model.proofs.ancestor.ancestor.Goals as goal

pub returns-then-a-b-clause-test : goal.returns-then-a-b-clause-test
returns-then-a-b-clause-test c = sym (not-before c.args.a c.args.b c.args.parents.now c.if-a-b.true c.requires.there)

pub returns-then-a-b-clause-relation : goal.returns-then-a-b-clause-relation
returns-then-a-b-clause-relation c =
    let test = returns-then-a-b-clause-test c in
    let decides = is_ancestor-decides c.args.parents.now c.requires.earlier c.args.a c.args.b c.requires.there in
    (λ yes. decides.0 (sym test ∙ yes), λ is. test ∙ decides.1 is)

pub loop-pair-init : goal.loop-pair-init
loop-pair-init c =
    subst (λ reached. Walk c.args.a reached 0 (take (c.args.b + 1 - c.args.a) (drop c.args.a c.args.parents.now))) (sym c.in_ok-reached.ensures.items) (walk-begins c.args.a (c.args.b + 1 - c.args.a) c.args.parents.now c.requires.earlier)

pub returns-clause-test : goal.returns-clause-test
returns-clause-test c =
    let past = c.loop-pair-test.false in
    c.index.ensures ∙ walk-ends c.args.a c.args.b c.loop-pair.reached.items c.loop-pair.pair-index c.args.parents.now c.loop-pair.invariant (omega (arith, past)) (omega (arith, c.if-a-b.false)) c.requires.there c.index.result.now

pub returns-clause-relation : goal.returns-clause-relation
returns-clause-relation c =
    let test = returns-clause-test c in
    let decides = is_ancestor-decides c.args.parents.now c.requires.earlier c.args.a c.args.b c.requires.there in
    (λ yes. decides.0 (sym test ∙ yes), λ is. test ∙ decides.1 is)
