use Rattle.hgs_script.proofs.RunLemmas.{script_can}
use Rattle.hgs_script.proofs.laws.read_scripts_can_be_run.Goals as goal

pub returns : goal.returns
returns c bytes s e = script_can bytes s (c.read_scripts_are_scripts.ensures bytes s e)
