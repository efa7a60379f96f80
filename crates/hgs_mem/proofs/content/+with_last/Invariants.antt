use Rattle.std.proofs.Common.{length}
use Rattle.hgs_mem.proofs.content.+with_last.Given as goal

abbrev pub decreases-with_last : goal.decreases-with_last
decreases-with_last l = length l.pieces.now.items
