use Rattle.std.proofs.Common.{◌≡◌, length}
use Rattle.hgs_revlog.specs.Theorems.LoadLemmas.{load_rest}
use Rattle.hgs_revlog.proofs.revlog.Revlog.load_on.Given as goal

abbrev pub invariant-loop-bytes : goal.invariant-loop-bytes
invariant-loop-bytes l = load_rest l.tail l.log l.rest ≡ load_rest l.tail l.fn.self l.index

abbrev pub decreases-loop-bytes : goal.decreases-loop-bytes
decreases-loop-bytes l = length l.rest
