use Rattle.hgs_input.proofs.ImportLemmas.{import_back, import_written}
use Rattle.hgs_input.proofs.laws.imports_are_read.Goals as goal

pub returns-clause-read : goal.returns-clause-read
returns-clause-read c = import_back

pub returns-clause-written : goal.returns-clause-written
returns-clause-written c = import_written
