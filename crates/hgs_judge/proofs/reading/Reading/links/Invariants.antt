use Rattle.std.proofs.Common.{◌≡◌, take}
use Rattle.hgs_judge.specs.Read.{links_in}
use Rattle.hgs_judge.proofs.reading.Reading.links.Given as goal

abbrev pub invariant-loop-rev : goal.invariant-loop-rev
invariant-loop-rev l = l.links.items ≡ links_in (take l.rev l.self.log.entries)
