use Rattle.std.proofs.Common.{rules, length, ap, arith, length-append}
use Rattle.hgs_overlay.proofs.overlay.OverlayReads.read.Goals as goal

pub returns-in-Ok-true-clause-bytes : goal.returns-in-Ok-true-clause-bytes
returns-in-Ok-true-clause-bytes g c =
    let adds = c.add_part.ensures.adds in
    let long = ap length adds.1 in
    let both = length-append c.args.into.now.items adds.0 in
    (search rules, omega (arith, long, both, adds.2, c.len.ensures, c.len-before.ensures), adds.0, adds.1, omega (arith, long, both, c.len.ensures, c.len-before.ensures))
