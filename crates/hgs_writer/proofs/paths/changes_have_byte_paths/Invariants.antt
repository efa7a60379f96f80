use Rattle.std.proofs.Common.{take}
use Rattle.hgs_writer.specs.BytePaths.{AreOfBytes}
use Rattle.hgs_writer.proofs.paths.changes_have_byte_paths.Given as goal

abbrev pub invariant-loop-change : goal.invariant-loop-change
invariant-loop-change l = AreOfBytes (take l.change-index l.changes)
