use Rattle.std.proofs.Common.{◌∙◌, length, get_or, false, sym, ap, inl, inr, arith}
use Rattle.std.proofs.lemmas.Bool.{cases_lt}
use Rattle.hgs_members.specs.Bits.{bit_of}
use Rattle.hgs_members.proofs.BitLemmas.{bits_past, get_or-bits_of, length-bits_of}
use Rattle.hgs_members.proofs.members.Members.end.Goals as goal

pub returns-then-end-count-clause-top : goal.returns-then-end-count-clause-top
returns-then-end-count-clause-top c =
    let low = c.if-end-count.true in
    let long = length-bits_of c.self.inside.words.items c.self.inside.count in
    let same = ap (λ ms. length ms) c.self.view_is in
    omega (arith, low, long, same)

pub returns-then-end-count-clause-none : goal.returns-then-end-count-clause-none
returns-then-end-count-clause-none c = λ i le.
    ap (λ marks. get_or marks i false) (sym c.self.view_is) ∙ elim (cases_lt i c.self.inside.count) [
      | inl lt ↦ get_or-bits_of c.self.inside.words.items c.self.inside.count i lt ∙ ap (λ words. bit_of words i) (sym c.deref.ensures.value) ∙ c.used-end.ensures.none i le
      | inr past ↦ bits_past c.self.inside.words.items c.self.inside.count i past
    ]

pub returns-else-end-count-clause-top : goal.returns-else-end-count-clause-top
returns-else-end-count-clause-top c =
    let long = length-bits_of c.self.inside.words.items c.self.inside.count in
    let same = ap (λ ms. length ms) c.self.view_is in
    omega (arith, long, same)

pub returns-else-end-count-clause-none : goal.returns-else-end-count-clause-none
returns-else-end-count-clause-none c = λ i le. ap (λ marks. get_or marks i false) (sym c.self.view_is) ∙ bits_past c.self.inside.words.items c.self.inside.count i le
