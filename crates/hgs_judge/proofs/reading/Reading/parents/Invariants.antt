use Rattle.std.proofs.Common.{◌≡◌, take}
use Rattle.hgs_revlog.specs.Loaded.{parents_in}
use Rattle.hgs_judge.proofs.reading.Reading.parents.Given as goal

abbrev pub invariant-loop-rev : goal.invariant-loop-rev
invariant-loop-rev l = l.parents.items ≡ parents_in (take l.rev l.self.log.entries)
