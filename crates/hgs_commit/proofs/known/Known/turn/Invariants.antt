use Rattle.std.proofs.Common.{length}
use Rattle.std.specs.List.{AllByRecursion}
use Rattle.hgs_files.specs.Tree.{Tree}
use Rattle.hgs_commit.specs.Known.{AreFreeOf, AreKept, IsKept}
use Rattle.hgs_commit.proofs.known.Known.turn.Given as goal

abbrev pub invariant-loop-known : goal.invariant-loop-known
invariant-loop-known l = (t : Tree) → AreKept t l.fn.self → AreFreeOf t l.changes l.self.before.items × AllByRecursion (IsKept t) l.self.now.items

abbrev pub decreases-loop-known : goal.decreases-loop-known
decreases-loop-known l = length l.self.now.items
