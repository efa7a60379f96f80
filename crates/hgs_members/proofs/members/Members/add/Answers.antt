use Rattle.std.proofs.Common.{◌≡◌, ◌∙◌, ◌/◌, true, get_or, set, sym, ap, arith}
use Rattle.std.proofs.lemmas.List.{get_or_read}
use Rattle.hgs_members.proofs.BitLemmas.{bit_added, bit_past, word_in}
use Rattle.hgs_members.proofs.members.Members.add.Goals as goal

pub returns-then-rev-self : goal.returns-then-rev-self
returns-then-rev-self c =
    let words = c.self.inside.words.items in
    let low = c.if-rev-self.true in
    let room = c.self.invariant in
    let there = word_in c.self.inside.count c.args.rev (omega (arith, low)) in
    let read : c.index-word.result.now ≡ get_or words (c.args.rev / 64) 0 = get_or_read words (c.args.rev / 64) _ (omega (arith, there, room)) c.index-word.ensures 0 in
    bit_added words c.self.inside.count c.args.rev c.index-word.result.now (omega (arith, low)) room read ∙ ap (λ marks. set marks c.args.rev true) c.self.view_is

pub returns-else-rev-self : goal.returns-else-rev-self
returns-else-rev-self c =
    let high = c.if-rev-self.false in
    sym c.self.view_is ∙ sym (bit_past c.self.inside.words.items c.self.inside.count c.args.rev true (omega (arith, high))) ∙ ap (λ marks. set marks c.args.rev true) c.self.view_is
