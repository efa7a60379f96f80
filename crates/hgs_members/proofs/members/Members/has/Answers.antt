use Rattle.std.proofs.Common.{◌≡◌, ◌∙◌, ◌/◌, ◌%◌, nat_lt, eqb, false, get_or, sym, ap, arith}
use Rattle.std.proofs.lemmas.Bool.{le-ltb}
use Rattle.std.proofs.lemmas.List.{get_or_read}
use Rattle.std.specs.Int.{bit_at}
use Rattle.hgs_members.proofs.BitLemmas.{bit_set, bits_past, get_or-bits_of, word_in}
use Rattle.hgs_members.proofs.members.Members.has.Goals as goal

pub returns-then-rev-self : goal.returns-then-rev-self
returns-then-rev-self c =
    let words = c.self.inside.words.items in
    let low = c.if-rev-self.true in
    let room = c.self.invariant in
    let there = word_in c.self.inside.count c.args.rev (omega (arith, low)) in
    let read : c.index.result.now ≡ get_or words (c.args.rev / 64) 0 = get_or_read words (c.args.rev / 64) _ (omega (arith, there, room)) c.index.ensures 0 in
    bit_set c.index.result.now (c.args.rev % 64) (omega arith) ∙ ap (λ x. eqb (bit_at x (c.args.rev % 64)) 1) read ∙ sym (get_or-bits_of words c.self.inside.count c.args.rev (omega (arith, low))) ∙ ap (λ marks. get_or marks c.args.rev false) c.self.view_is

pub returns-else-rev-self : goal.returns-else-rev-self
returns-else-rev-self c =
    let high = c.if-rev-self.false in
    let none : nat_lt c.args.rev c.self.inside.count ≡ false = le-ltb c.args.rev c.self.inside.count high in
    none ∙ sym (bits_past c.self.inside.words.items c.self.inside.count c.args.rev high) ∙ ap (λ marks. get_or marks c.args.rev false) c.self.view_is
