use Rattle.hgs_input.proofs.ImportFronts.{import_body_stays, import_cut, import_decided, import_fault_stays, import_files_stay}
use Rattle.hgs_input.proofs.laws.imports_are_decided_by_fronts.Goals as goal

pub returns-clause-cut : goal.returns-clause-cut
returns-clause-cut c = import_cut

pub returns-clause-form : goal.returns-clause-form
returns-clause-form c = import_fault_stays

pub returns-clause-body : goal.returns-clause-body
returns-clause-body c = import_body_stays

pub returns-clause-files : goal.returns-clause-files
returns-clause-files c = import_files_stay

pub returns-clause-long : goal.returns-clause-long
returns-clause-long c = import_decided
