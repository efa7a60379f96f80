use Rattle.std.proofs.Common.{sym, arith}
use Rattle.hgs_bytes.specs.Theorems.TextLemmas.{split_shorter}
use Rattle.hgs_input.proofs.input.Input.line.Goals as goal

pub invariant_of-result : goal.invariant_of-result
invariant_of-result c =
    let shorter = split_shorter 10 c.self.inside.rest.now (c.in-Some.line.now, c.in-Some.rest.now) (sym c.in-Some.ensures) in
    let room = c.self.invariant in
    omega (arith, shorter, room)
