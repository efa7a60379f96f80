use Rattle.hgs_machine.proofs.Plans.{is-planned}
use Rattle.hgs_machine.proofs.laws.plans_can_be_carried_out.Goals as goal

pub returns : goal.returns
returns c = is-planned
