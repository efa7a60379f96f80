use Rattle.hgs_writer.proofs.Resting.{one-number}
use Rattle.hgs_writer.proofs.turn_laws.states_at_rest_have_one_number.Goals as goal

pub returns : goal.returns
returns c = one-number
