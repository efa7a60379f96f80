use Rattle.std.proofs.Common.{◌≡◌, ◌≤◌, ◌*◌, take}
use Rattle.hgs_revlog.specs.Log.{stored_sum}
use Rattle.hgs_judge.proofs.reading.Reading.stored.Given as goal

abbrev pub invariant-loop-rev : goal.invariant-loop-rev
invariant-loop-rev l = record { sum : l.sum ≡ stored_sum (take l.rev l.self.log.entries); small : l.sum ≤ 4294967295 * l.rev }
