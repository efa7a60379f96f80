use Rattle.hgs_members.proofs.BitLemmas.{Turned}
use Rattle.hgs_members.proofs.bits.invert.Given as goal

abbrev pub invariant-loop-place : goal.invariant-loop-place
invariant-loop-place l = Turned l.place l.fn.words.items l.words.items
