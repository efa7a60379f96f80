use Rattle.std.proofs.Common.{refl, arith}
use Rattle.std.proofs.lemmas.List.{get_or_read}
use Rattle.hgs_members.proofs.BitLemmas.{turned_next}
use Rattle.hgs_members.proofs.bits.invert.Goals as goal

pub loop-place-preserved : goal.loop-place-preserved
loop-place-preserved c =
    let words = c.loop-place.words.items in
    let test = c.loop-place-test.true in
    turned_next c.loop-place.place c.index.result.now c.turned-word.result c.args.words.now.items words _ (omega (arith, test)) (get_or_read words c.loop-place.place _ (omega (arith, test)) c.index.ensures 0) c.turned-word.ensures refl c.loop-place.invariant

pub returns-clause-each : goal.returns-clause-each
returns-clause-each c = λ i k lt less. c.loop-place.invariant.below i k (let past = c.loop-place-test.false in omega (arith, lt, past)) less
