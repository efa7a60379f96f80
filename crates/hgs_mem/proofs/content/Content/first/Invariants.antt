use Rattle.std.proofs.Common.{◌≡◌, ◌++◌, take, drop}
use Rattle.hgs_mem.specs.Content.{joined}
use Rattle.hgs_mem.proofs.content.Content.first.Given as goal

abbrev pub invariant-loop-piece : goal.invariant-loop-piece
invariant-loop-piece l = joined l.pieces.items ++ take l.left (joined (drop l.piece-index l.piece-items)) ≡ take l.most (joined l.piece-items)
