use Rattle.std.proofs.Common.{arith, rules}
use Rattle.hgs_input.proofs.ReadLemmas.{parent_refused}
use Rattle.hgs_input.proofs.input.Input.parents.Goals as goal

pub returns-in_err-name : goal.returns-in_err-name
returns-in_err-name c =
    let test = c.loop-alloc-test.true in
    let count = c.len.ensures in
    let refused = parent_refused c.loop-alloc.names c.loop-alloc.self c.in_err-name.field-0.0 _ (omega (arith, test, count)) c.loop-alloc.invariant.read c.in_err-name.ensures in
    search (rules, refused)
