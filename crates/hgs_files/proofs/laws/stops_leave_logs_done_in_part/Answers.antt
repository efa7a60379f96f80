use Rattle.hgs_files.specs.Theorems.LogLemmas.{stop-leaves-done}
use Rattle.hgs_files.proofs.laws.stops_leave_logs_done_in_part.Goals as goal

pub returns : goal.returns
returns c = stop-leaves-done
