use Rattle.hgs_input.proofs.ImportLemmas.{import_before, import_front_back, text_valid, text_written}
use Rattle.hgs_input.proofs.laws.imports_stand_in_front.Goals as goal

pub returns-clause-read : goal.returns-clause-read
returns-clause-read c = import_front_back

pub returns-clause-is : goal.returns-clause-is
returns-clause-is c = import_before

pub returns-clause-valid : goal.returns-clause-valid
returns-clause-valid c = text_valid

pub returns-clause-written : goal.returns-clause-written
returns-clause-written c = text_written
