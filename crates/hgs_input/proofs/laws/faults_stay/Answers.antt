use Rattle.hgs_input.proofs.FrontLemmas.{body_stays, fault_stays, files_stay}
use Rattle.hgs_input.proofs.laws.faults_stay.Goals as goal

pub returns-clause-body : goal.returns-clause-body
returns-clause-body c = body_stays

pub returns-clause-files : goal.returns-clause-files
returns-clause-files c = files_stay

pub returns-clause-form : goal.returns-clause-form
returns-clause-form c = fault_stays
