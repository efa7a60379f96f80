use Rattle.std.proofs.Common.{◌∙◌, ◌<◌, ◌*◌, length, get_or, false, sym, ap, arith}
use Rattle.hgs_members.specs.Bits.{bit_of}
use Rattle.hgs_members.proofs.BitLemmas.{get_or-bits_of, length-bits_of}
use Rattle.hgs_members.proofs.members.Members.first.Goals as goal

pub overflow_mul-result : goal.overflow_mul-result
overflow_mul-result c = let low = c.if-place-len.true in let room = c.self.invariant in omega (arith, low, room, c.len.ensures)

pub overflow_cast-result : goal.overflow_cast-result
overflow_cast-result c = let low = c.if-place-len.true in let room = c.self.invariant in omega (arith, low, room, c.len.ensures)

pub returns-then-place-len-clause-top : goal.returns-then-place-len-clause-top
returns-then-place-len-clause-top c =
    let low = c.if-place-len.true in
    let room = c.self.invariant in
    let long = length-bits_of c.self.inside.words.items c.self.inside.count in
    let same = ap (λ ms. length ms) c.self.view_is in
    omega (arith, low, room, long, same)

pub returns-then-place-len-clause-none : goal.returns-then-place-len-clause-none
returns-then-place-len-clause-none c = λ i lt.
    let low = c.if-place-len.true in
    let room = c.self.invariant in
    let less : i < c.self.inside.count = omega (arith, lt, low, room) in
    ap (λ marks. get_or marks i false) (sym c.self.view_is) ∙ get_or-bits_of c.self.inside.words.items c.self.inside.count i less ∙ ap (λ words. bit_of words i) (sym c.deref.ensures.value) ∙ c.empty_before-place.ensures.none i lt

pub returns-else-place-len-clause-top : goal.returns-else-place-len-clause-top
returns-else-place-len-clause-top c =
    let long = length-bits_of c.self.inside.words.items c.self.inside.count in
    let same = ap (λ ms. length ms) c.self.view_is in
    omega (arith, long, same)

pub returns-else-place-len-clause-none : goal.returns-else-place-len-clause-none
returns-else-place-len-clause-none c = λ i lt.
    let all = c.if-place-len.false in
    let room = c.self.invariant in
    let less : i < 64 * c.empty_before-place.result = omega (arith, lt, all, room, c.len.ensures) in
    ap (λ marks. get_or marks i false) (sym c.self.view_is) ∙ get_or-bits_of c.self.inside.words.items c.self.inside.count i lt ∙ ap (λ words. bit_of words i) (sym c.deref.ensures.value) ∙ c.empty_before-place.ensures.none i less
