use Rattle.std.proofs.Common.{◌≡◌, ◌≤◌, ◌*◌, ℕ, false}
use Rattle.hgs_members.specs.Bits.{bit_of}
use Rattle.hgs_members.proofs.bits.used.Given as goal

abbrev pub invariant-loop-place : goal.invariant-loop-place
invariant-loop-place l = (i : ℕ) → 64 * l.place ≤ i → bit_of l.words i ≡ false
