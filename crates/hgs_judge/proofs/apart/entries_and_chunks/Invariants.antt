use Rattle.std.proofs.Common.{◌≡◌, length, ◌++◌}
use Rattle.hgs_index.specs.Inline.{chunks_in, entries_in}
use Rattle.hgs_judge.proofs.apart.entries_and_chunks.Given as goal

abbrev pub invariant-loop-entry : goal.invariant-loop-entry
invariant-loop-entry l =
    (l.entries.items ++ entries_in (length l.rest) l.rest ≡ entries_in (length l.index) l.index)
    × (l.chunks.items ++ chunks_in (length l.rest) l.rest ≡ chunks_in (length l.index) l.index)

abbrev pub decreases-loop-entry : goal.decreases-loop-entry
decreases-loop-entry l = length l.rest
