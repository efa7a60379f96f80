use Rattle.std.proofs.Common.{◌∙◌, ap}
use Rattle.hgs_members.specs.Bits.{bits_of}
use Rattle.hgs_members.proofs.BitLemmas.{bits_of_zeros}
use Rattle.hgs_members.proofs.members.Members.none.Goals as goal

pub returns : goal.returns
returns c = ap (λ words. bits_of words c.args.count) c.in_ok-filled.ensures ∙ bits_of_zeros c.words_for.result c.args.count
