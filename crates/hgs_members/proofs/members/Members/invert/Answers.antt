use Rattle.std.proofs.Common.{◌∙◌, ◌<◌, sym, ap, not, false, length, get_or, arith}
use Rattle.hgs_members.proofs.BitLemmas.{bits_by, length-bits_of, not_each}
use Rattle.hgs_members.proofs.members.Members.invert.Goals as goal

pub returns-clause-count : goal.returns-clause-count
returns-clause-count c = length-bits_of c.invert.new.words.items c.self.inside.count ∙ sym (length-bits_of c.self.inside.words.items c.self.inside.count) ∙ ap (λ ms. length ms) c.self.view_is

pub returns-clause-each : goal.returns-clause-each
returns-clause-each c = λ i lt.
    let words = c.self.inside.words.items in
    let count = c.self.inside.count in
    let long = length-bits_of words count in
    let same = ap (λ ms. length ms) c.self.view_is in
    let low : i < count = omega (arith, lt, long, same) in
    bits_by (λ a b. not a) words words c.invert.new.words.items count i c.self.invariant low (not_each words c.invert.new.words.items c.invert.ensures.count c.invert.ensures.each) ∙ ap (λ ms. not (get_or ms i false)) c.self.view_is
