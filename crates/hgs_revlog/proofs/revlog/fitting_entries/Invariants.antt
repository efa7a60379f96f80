use Rattle.std.proofs.Common.{◌≡◌, ◌≤◌, false, length}
use Rattle.hgs_revlog.specs.Load.{loaded, most_data, most_revisions}
use Rattle.hgs_revlog.specs.Loaded.{HaveOwnNodes}
use Rattle.hgs_revlog.specs.Log.{stored_sum}
use Rattle.hgs_revlog.specs.Theorems.LoadLemmas.{load_rest}
use Rattle.hgs_revlog.proofs.revlog.fitting_entries.Given as goal

abbrev pub invariant-loop-bytes : goal.invariant-loop-bytes
invariant-loop-bytes l =
    (l.end ≡ stored_sum l.entries.items) × (l.end ≤ most_data) × (length l.entries.items ≤ most_revisions)
    × (HaveOwnNodes l.entries.items → load_rest l.tail (record { inline = false; entries = l.entries.items }) l.rest ≡ loaded l.tail l.index)

abbrev pub decreases-loop-bytes : goal.decreases-loop-bytes
decreases-loop-bytes l = length l.rest
