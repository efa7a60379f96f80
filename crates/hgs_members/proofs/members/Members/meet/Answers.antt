use Rattle.std.proofs.Common.{◌≡◌, ◌∙◌, ◌<◌, ◌&&◌, bit_and, length, get_or, false, sym, ap, arith}
use Rattle.hgs_members.specs.Bits.{bits_of, words_for}
use Rattle.hgs_members.proofs.BitLemmas.{and_each, bits_by, length-bits_of}
use Rattle.hgs_members.proofs.members.Members.meet.Goals as goal

pub meet-requires : goal.meet-requires
meet-requires c =
    let left = length-bits_of c.self.inside.words.items c.self.inside.count in
    let right = length-bits_of c.others.inside.words.items c.others.inside.count in
    let same : c.self.inside.count ≡ c.others.inside.count = sym left ∙ ap (λ ms. length ms) c.self.view_is ∙ c.requires ∙ ap (λ ms. length ms) (sym c.others.view_is) ∙ right in
    c.self.invariant ∙ ap words_for same ∙ sym c.others.invariant ∙ ap (λ ms. length ms) (sym c.deref.ensures.value)

pub returns : goal.returns
returns c =
    let mine = c.self.inside.words.items in
    let theirs = c.others.inside.words.items in
    let count = c.self.inside.count in
    let left = length-bits_of mine count in
    let right = length-bits_of theirs c.others.inside.count in
    let same : count ≡ c.others.inside.count = sym left ∙ ap (λ ms. length ms) c.self.view_is ∙ c.requires ∙ ap (λ ms. length ms) (sym c.others.view_is) ∙ right in
    let new = c.meet.new.words.items in
    record {
      count = length-bits_of new count ∙ sym left ∙ ap (λ ms. length ms) c.self.view_is;
      each = λ i lt.
          (let low : i < count = (let e = ap (λ ms. length ms) c.self.view_is in omega (arith, lt, e, left)) in
          bits_by (λ a b. a && b) mine theirs new count i c.self.invariant low (and_each mine theirs new c.meet.ensures.count (λ k less. c.meet.ensures.each k less ∙ ap (λ ms. bit_and (get_or mine k 0) (get_or ms k 0)) c.deref.ensures.value))
          ∙ ap (λ ms. get_or ms i false && get_or (bits_of theirs count) i false) c.self.view_is
          ∙ ap (λ n. get_or c.args.self.now i false && get_or (bits_of theirs n) i false) same
          ∙ ap (λ ms. get_or c.args.self.now i false && get_or ms i false) c.others.view_is);
    }
