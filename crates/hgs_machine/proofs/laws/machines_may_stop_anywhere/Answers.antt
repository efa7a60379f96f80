use Rattle.hgs_machine.proofs.Stopping.{stops}
use Rattle.hgs_machine.proofs.laws.machines_may_stop_anywhere.Goals as goal

pub returns : goal.returns
returns c = stops
