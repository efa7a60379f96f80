use Rattle.hgs_schedule.specs.Read.{schedule_from}
use Rattle.hgs_schedule.specs.Theorems.WholeLemmas.{front_cut}
use Rattle.hgs_schedule.proofs.FrontLemmas.{schedule_alike}
use Rattle.hgs_schedule.proofs.laws.fronts_are_cut.Goals as goal

pub returns : goal.returns
returns c = front_cut schedule_from (schedule_alike c.records_stand_in_front.ensures.is c.imports_stand_in_front.ensures.is c.fronts_are_read_alike.ensures c.imports_are_read_alike.ensures)
