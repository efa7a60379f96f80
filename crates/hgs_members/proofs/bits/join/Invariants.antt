use Rattle.std.proofs.Common.{bit_or}
use Rattle.std.specs.Prelude.{slice_index_or}
use Rattle.hgs_members.proofs.EachLemmas.{Changed}
use Rattle.hgs_members.proofs.bits.join.Given as goal

abbrev pub invariant-loop-place : goal.invariant-loop-place
invariant-loop-place l = Changed 0 l.place (λ i. bit_or (slice_index_or l.fn.words.items i 0) (slice_index_or l.others i 0)) l.fn.words.items l.words.items
