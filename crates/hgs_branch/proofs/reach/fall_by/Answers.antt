use Rattle.std.proofs.Common.{arith}
use Rattle.hgs_branch.specs.Tracked.{numbers_in}
use Rattle.hgs_branch.specs.declared.reach.Known.{Known}
use Rattle.hgs_branch.proofs.HandLemmas.{falls_none, falls_when}
use Rattle.hgs_branch.proofs.ListLemmas.{get_is, get_map, length_map, past_none}
use Rattle.hgs_branch.proofs.reach.fall_by.Goals as goal

pub returns-in-Some : goal.returns-in-Some
returns-in-Some c =
    let there = c.in-Some.there.now in
    falls_when c.args.known.now c.args.heads.now.items c.fall.new.heads.items c.args.words.now c.args.place there.branch c.has.result
    (get_map (λ (x : Known). x.branch) c.args.known.now c.args.place there (get_is c.args.known.now c.args.place there c.in-Some.ensures.lookup.3)) c.has.ensures c.fall.ensures

pub returns-in_default : goal.returns-in_default
returns-in_default c =
    falls_none c.args.known.now c.args.heads.now.items c.args.words.now c.args.place
    (past_none (numbers_in c.args.known.now) c.args.place (let past = c.in_default.ensures.lookup.3 in let long = length_map (λ (x : Known). x.branch) c.args.known.now in omega (arith, past, long)))
