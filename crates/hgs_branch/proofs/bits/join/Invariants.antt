use Rattle.std.proofs.Common.{◌≡◌, false}
use Rattle.hgs_branch.proofs.BitLemmas.{Joined}
use Rattle.hgs_branch.proofs.bits.join.Given as goal

abbrev pub invariant-loop-place : goal.invariant-loop-place
invariant-loop-place l = record {
  joined : Joined l.place l.fn.words.items l.others l.words.items;
  none : l.more ≡ false → l.words.items ≡ l.fn.words.items;
}
