use Rattle.std.proofs.Common.{◌<◌, ◌/◌, length, arith}
use Rattle.std.proofs.lemmas.List.{get_or_read}
use Rattle.hgs_branch.proofs.BitLemmas.{set_bit, set_none}
use Rattle.hgs_branch.proofs.bits.set.Goals as goal

pub returns-then-number-len-clause-each : goal.returns-then-number-len-clause-each
returns-then-number-len-clause-each c = λ other.
    let words = c.args.words.now.items in
    let place = c.args.number / 64 in
    let test = c.if-number-len.true in
    let end = c.len.ensures in
    let size = c.args.words.now.ok.0 in
    let within : place < length words = omega (arith, test, end, size) in
    set_bit words c.args.number c.index.result.now other within (get_or_read words place _ within c.index.ensures 0)
