use Rattle.hgs_script.specs.Read.{script_from}
use Rattle.hgs_schedule.specs.Theorems.WholeLemmas.{decided}
use Rattle.hgs_script.proofs.laws.long_inputs_are_decided.Goals as goal

pub returns : goal.returns
returns c = decided script_from
