use Rattle.std.proofs.Common.{◌≡◌, ◌≤◌, ◌++◌, length, take, drop}
use Rattle.hgs_mem.specs.Content.{joined}
use Rattle.hgs_mem.proofs.content.Content.read.Given as goal

abbrev pub invariant-loop-piece : goal.invariant-loop-piece
invariant-loop-piece l =
    (take l.before l.into.items ≡ l.initial.into.items) × (l.before ≤ length l.into.items)
    × (l.into.items ++ take l.left (drop l.skip (joined (drop l.piece-index l.piece-items))) ≡ l.initial.into.items ++ take l.most (drop l.from (joined l.piece-items)))
