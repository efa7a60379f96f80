use Rattle.std.proofs.Common.{inl, inr, arith}
use Rattle.hgs_branch.proofs.BitLemmas.{joined_bits}
use Rattle.hgs_branch.proofs.bits.join.Goals as goal

pub returns-in_default-clause-each : goal.returns-in_default-clause-each
returns-in_default-clause-each c =
    let lt = c.loop-place-test.true in
    let end = c.len-place-end.ensures in
    let size = c.args.words.now.ok.0 in
    joined_bits c.loop-place.place c.args.words.now.items c.args.others.now c.loop-place.words.items (omega (arith, lt, end, size)) (inr c.in_default.ensures.lookup.3) c.loop-place.invariant.joined

pub returns-clause-each : goal.returns-clause-each
returns-clause-each c =
    let past = c.loop-place-test.false in
    let low = c.loop-place.auto.place-end in
    let end = c.len-place-end.ensures in
    let size = c.args.words.now.ok.0 in
    joined_bits c.loop-place.place c.args.words.now.items c.args.others.now c.loop-place.words.items (omega (arith, low, end, size)) (inl (omega (arith, past, end, size))) c.loop-place.invariant.joined
