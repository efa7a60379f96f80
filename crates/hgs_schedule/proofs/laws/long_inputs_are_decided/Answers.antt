use Rattle.hgs_schedule.specs.Read.{schedule_from}
use Rattle.hgs_schedule.specs.Theorems.WholeLemmas.{decided}
use Rattle.hgs_schedule.proofs.laws.long_inputs_are_decided.Goals as goal

pub returns : goal.returns
returns c = decided schedule_from
