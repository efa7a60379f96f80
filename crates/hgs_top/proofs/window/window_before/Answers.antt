use Rattle.std.proofs.Common.{◌∙◌, arith}
use Rattle.hgs_top.proofs.WindowLemmas.{back_on}
use Rattle.hgs_top.proofs.window.window_before.Goals as goal

pub loop-first-preserved : goal.loop-first-preserved
loop-first-preserved c =
    let i = c.loop-first.invariant in
    let few = c.if-window-le-MOST_WINDOW.true in
    let low = c.if-from-window.false in
    let near = c.if-window-from.false in
    let l = i.within in
    record {
      goes_on = back_on c.args.log.now c.loop-first.window c.loop-first.first c.span_in_file-from.result c.loop-first-test.true c.span_in_file-from.ensures (omega (arith, low)) (omega (arith, few, low, near)) ∙ i.goes_on;
      within = omega (arith, l);
    }
