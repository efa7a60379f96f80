use Rattle.hgs_world.specs.World.{who}
use Rattle.hgs_world.proofs.MomentLemmas.{answer_at, written_so_far}
use Rattle.hgs_world.proofs.laws.writers_may_stop_anywhere.Goals as goal

pub returns : goal.returns
returns c = record {
  pieces = λ t r command w done s valid lists h. c.calls_leave_what_they_answer.ensures.pieces t r command who (answer_at w) done s valid lists (written_so_far c.machines_may_stop_anywhere.ensures command t w done h);
  leaves = λ t r command w done s valid lists h. c.calls_leave_what_they_answer.ensures.answered t r command who (answer_at w) done s valid lists (written_so_far c.machines_may_stop_anywhere.ensures command t w done h);
}
