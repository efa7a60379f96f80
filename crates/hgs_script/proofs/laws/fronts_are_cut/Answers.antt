use Rattle.hgs_script.specs.Read.{script_from}
use Rattle.hgs_schedule.specs.Theorems.WholeLemmas.{front_cut}
use Rattle.hgs_script.proofs.FrontLemmas.{script_alike}
use Rattle.hgs_script.proofs.laws.fronts_are_cut.Goals as goal

pub returns : goal.returns
returns c = front_cut script_from (script_alike c.records_stand_in_front.ensures.is c.fronts_are_read_alike.ensures)
