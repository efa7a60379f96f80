use Rattle.hgs_phases.specs.Theorems.WrittenLemmas.{written_read, written_same}
use Rattle.hgs_phases.proofs.laws.written_then_read.Goals as goal

pub returns-clause-read : goal.returns-clause-read
returns-clause-read c = written_read

pub returns-clause-same : goal.returns-clause-same
returns-clause-same c = written_same
