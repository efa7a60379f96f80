use Rattle.std.proofs.Common.{arith}
use Rattle.hgs_input.proofs.NumberLemmas.{cut_twice, digit_at, digit_more}
use Rattle.hgs_input.proofs.number.value_up_to.Goals as goal

pub loop-digit-preserved : goal.loop-digit-preserved
loop-digit-preserved c =
    let digit = digit_at c.args.digits.now c.loop-digit.digit-index c.requires.digits c.loop-digit-test.true in
    let step = cut_twice _ _ _ _ _ _ c.requires.small c.saturating_mul.ensures c.saturating_add-more.ensures c.min-value.ensures in
    record {
      small = omega (arith, c.min-value.ensures);
      same = digit_more _ _ _ _ _ _ c.loop-digit-test.true step digit c.loop-digit.invariant.same;
    }
