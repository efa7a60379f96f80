use Rattle.hgs_schedule.specs.Read.{schedule_from}
use Rattle.hgs_schedule.specs.Theorems.WholeLemmas.{body_stays, fault_stays, files_stay}
use Rattle.hgs_schedule.proofs.FrontLemmas.{schedule_alike}
use Rattle.hgs_schedule.proofs.laws.faults_stay.Goals as goal

pub returns-clause-body : goal.returns-clause-body
returns-clause-body c = body_stays schedule_from (schedule_alike c.records_stand_in_front.ensures.is c.imports_stand_in_front.ensures.is c.fronts_are_read_alike.ensures c.imports_are_read_alike.ensures)

pub returns-clause-files : goal.returns-clause-files
returns-clause-files c = files_stay schedule_from (schedule_alike c.records_stand_in_front.ensures.is c.imports_stand_in_front.ensures.is c.fronts_are_read_alike.ensures c.imports_are_read_alike.ensures)

pub returns-clause-form : goal.returns-clause-form
returns-clause-form c = fault_stays schedule_from (schedule_alike c.records_stand_in_front.ensures.is c.imports_stand_in_front.ensures.is c.fronts_are_read_alike.ensures c.imports_are_read_alike.ensures)
