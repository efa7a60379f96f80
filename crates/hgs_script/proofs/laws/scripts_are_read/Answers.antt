use Rattle.hgs_script.proofs.ScriptBack.{script_back}
use Rattle.hgs_script.proofs.laws.scripts_are_read.Goals as goal

pub returns : goal.returns
returns c = script_back c.records_stand_in_front.ensures.read
