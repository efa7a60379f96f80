use Rattle.std.proofs.Common.{◌≡◌, ◌<◌, ◌*◌, ℕ, false}
use Rattle.hgs_members.specs.Bits.{bit_of}
use Rattle.hgs_members.proofs.bits.empty_before.Given as goal

abbrev pub invariant-loop-place : goal.invariant-loop-place
invariant-loop-place l = (i : ℕ) → i < 64 * l.place → bit_of l.words i ≡ false
