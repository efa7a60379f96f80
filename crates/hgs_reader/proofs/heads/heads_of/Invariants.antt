use Rattle.std.proofs.Common.{◌≡◌, ◌++◌, drop}
use Rattle.hgs_reader.specs.Heads.{unmarked_from}
use Rattle.hgs_reader.proofs.heads.heads_of.Given as goal

abbrev pub invariant-loop-rev : goal.invariant-loop-rev
invariant-loop-rev l = l.lines.items ++ unmarked_from l.marks.items l.rev (drop l.rev l.log.entries) ≡ unmarked_from l.marks.items 0 l.log.entries
