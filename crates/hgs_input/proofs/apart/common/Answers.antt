use Rattle.std.proofs.Common.{◌≡◌, ◌+◌, ◌∙◌, ap, arith, drop, drop_of_length-le}
use Rattle.hgs_input.specs.View.{common}
use Rattle.hgs_input.proofs.PathLemmas.{common_none}
use Rattle.hgs_input.proofs.apart.common.Goals as goal

pub returns-else-count-b : goal.returns-else-count-b
returns-else-count-b c =
    let n = c.loop-count.count in
    let none : common (drop n c.args.a.now) (drop n c.args.b.now) ≡ 0 =
    ap (common (drop n c.args.a.now)) (drop_of_length-le c.args.b.now {i = n} c.if-count-b.false) ∙ common_none (drop n c.args.a.now) in
    let all : n + common (drop n c.args.a.now) (drop n c.args.b.now) ≡ common c.args.a.now c.args.b.now = c.loop-count.invariant in
    omega (arith, none, all)
