use Rattle.std.proofs.Common.{w64, arith}
use Rattle.std.proofs.lemmas.Nat.Bits.{bit_at_not}
use Rattle.hgs_members.proofs.bits.turned.Goals as goal

pub returns : goal.returns
returns c = λ k less. let low = c.ranges.word in bit_at_not w64 c.args.word k (omega (arith, low)) less
