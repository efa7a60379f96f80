use Rattle.hgs_machine.proofs.Going.{begins-so, goes-done, goes-failed, goes-sized}
use Rattle.hgs_machine.proofs.laws.machines_go_on.Goals as goal

pub returns : goal.returns
returns c = record { begins = begins-so; done = goes-done; failed = goes-failed; sized = goes-sized }
