use Rattle.std.proofs.Common.{length}
use Rattle.hgs_files.specs.Tree.{Tree}
use Rattle.hgs_commit.specs.Known.{AreKept}
use Rattle.hgs_commit.proofs.known.Known.next.Given as goal

abbrev pub invariant-loop-self : goal.invariant-loop-self
invariant-loop-self l = (t : Tree) → AreKept t l.fn.self → AreKept t l.self

abbrev pub decreases-loop-self : goal.decreases-loop-self
decreases-loop-self l = length l.self.before.items
