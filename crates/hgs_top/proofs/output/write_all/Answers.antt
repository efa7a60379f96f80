use Rattle.std.proofs.Common.{arith}
use Rattle.std.proofs.lemmas.List.{take_rest, length-drop}
use Rattle.hgs_top.proofs.Written.{written_on}
use Rattle.hgs_top.proofs.output.write_all.Goals as goal

pub loop-at-preserved : goal.loop-at-preserved
loop-at-preserved g c =
    let w = c.in-Ok.ensures.bytes in
    let rest = take_rest c.args.bytes.now c.loop-at.at in
    let few = rw rest at w.0 in
    let put = rw rest at w.2 in
    record {
      within = omega (arith, few, length-drop c.loop-at.at c.args.bytes.now);
      written = written_on _ _ _ c.loop-at.at c.in-Ok.count c.args.bytes.now c.loop-at.invariant.written put;
      later = (let k = c.in-Ok.ensures.counts in omega (arith, k));
    }
