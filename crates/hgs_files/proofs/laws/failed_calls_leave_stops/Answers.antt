use Rattle.hgs_files.specs.Theorems.StopLemmas.{done-stops}
use Rattle.hgs_files.proofs.laws.failed_calls_leave_stops.Goals as goal

pub returns : goal.returns
returns c = done-stops
