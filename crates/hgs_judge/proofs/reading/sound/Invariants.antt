use Rattle.std.specs.Prelude.{take, IsOk}
use Rattle.hgs_revlog.specs.Held.{read_from}
use Rattle.hgs_judge.proofs.reading.sound.Given as goal

abbrev pub invariant-loop-rev : goal.invariant-loop-rev
invariant-loop-rev l = IsOk (read_from l.log.entries l.data_bytes 0 (take l.rev l.log.entries))
