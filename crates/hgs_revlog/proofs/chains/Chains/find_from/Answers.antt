use Rattle.std.proofs.Common.{◌<◌, ◌-◌, length, sym, ◌∙◌, arith}
use Rattle.hgs_revlog.proofs.ChainLemmas.{on_read, on_step, on_within}
use Rattle.hgs_revlog.proofs.chains.Chains.find_from.Goals as goal

pub loop-until-init : goal.loop-until-init
loop-until-init c = (c.requires.on, on_within c.args.self.now c.args.known.now c.requires.chains c.args.node.now c.args.last c.requires.on)

pub returns-then-eq : goal.returns-then-eq
returns-then-eq c =
    let until = c.loop-until.until in
    let lt : until - 1 < length c.args.known.now = (let some = c.loop-until-test.true in let le = c.loop-until.invariant.1 in omega (arith, some, le)) in
    on_read c.args.self.now c.args.known.now c.requires.chains c.args.node.now (until - 1) _ lt (sym c.eq.ensures ∙ c.if-eq.true)

pub loop-until-smaller : goal.loop-until-smaller
loop-until-smaller c =
    let until = c.loop-until.until in
    let some = c.loop-until-test.true in
    let lt : until - 1 < length c.args.known.now = (let le = c.loop-until.invariant.1 in omega (arith, some, le)) in
    (on_step c.args.self.now c.args.known.now c.requires.chains c.args.node.now (until - 1) _ lt until c.index-until.result.now (omega (arith, some)) c.loop-until.invariant.0 (sym c.eq.ensures ∙ c.if-eq.false) c.index-until.ensures).0

pub loop-until-preserved : goal.loop-until-preserved
loop-until-preserved c =
    let until = c.loop-until.until in
    let some = c.loop-until-test.true in
    let lt : until - 1 < length c.args.known.now = (let le = c.loop-until.invariant.1 in omega (arith, some, le)) in
    let step = on_step c.args.self.now c.args.known.now c.requires.chains c.args.node.now (until - 1) _ lt until c.index-until.result.now (omega (arith, some)) c.loop-until.invariant.0 (sym c.eq.ensures ∙ c.if-eq.false) c.index-until.ensures in
    (step.1, step.2)
