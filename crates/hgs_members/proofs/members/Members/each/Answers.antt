use Rattle.std.proofs.Common.{◌∙◌, ◌^◌, ◌-◌, replicate, ap}
use Rattle.hgs_members.specs.Bits.{bits_of}
use Rattle.hgs_members.proofs.BitLemmas.{bits_of_ones}
use Rattle.hgs_members.proofs.members.Members.each.Goals as goal

pub returns : goal.returns
returns c = ap (λ words. bits_of words c.args.count) c.in_ok-filled.ensures ∙ ap (λ n. bits_of (replicate n (2 ^ 64 - 1)) c.args.count) c.words_for.ensures ∙ bits_of_ones c.args.count
