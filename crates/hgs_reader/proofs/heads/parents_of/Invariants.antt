use Rattle.std.proofs.Common.{◌≡◌, false, length, drop, replicate}
use Rattle.hgs_reader.specs.Heads.{marked_by}
use Rattle.hgs_reader.proofs.heads.parents_of.Given as goal

abbrev pub invariant-loop-rev : goal.invariant-loop-rev
invariant-loop-rev l = marked_by (drop l.rev l.log.entries) l.marks.items ≡ marked_by l.log.entries (replicate (length l.log.entries) false)
