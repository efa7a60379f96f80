use Rattle.hgs_writer.proofs.Resting.{resting-journal, resting-stands}
use Rattle.hgs_writer.proofs.turn_laws.states_at_rest_stand.Goals as goal

pub returns : goal.returns
returns c = record {
  stands = resting-stands c.numbers_rise.ensures.files c.stops_are_safe.ensures.ends;
  journal = resting-journal c.numbers_rise.ensures.files c.stops_are_safe.ensures.ends;
}
