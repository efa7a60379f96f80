use Rattle.std.proofs.Common.{◌∙◌, ◌%◌, eqb, ap, arith}
use Rattle.std.specs.Int.{bit_at}
use Rattle.hgs_branch.proofs.BitLemmas.{bit_set}
use Rattle.hgs_branch.proofs.bits.has.Goals as goal

pub returns : goal.returns
returns c = bit_set c.word_at.result (c.args.number % 64) (omega arith) ∙ ap (λ x. eqb (bit_at x (c.args.number % 64)) 1) c.word_at.ensures
