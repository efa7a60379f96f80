use Rattle.hgs_script.proofs.ScriptFound.{script_found}
use Rattle.hgs_script.proofs.laws.read_scripts_are_scripts.Goals as goal

pub returns : goal.returns
returns c = script_found c.records_stand_in_front.ensures.is
