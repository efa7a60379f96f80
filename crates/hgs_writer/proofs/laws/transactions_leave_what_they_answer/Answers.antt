use Rattle.std.proofs.Common.{◌++◌}
use Rattle.hgs_model.specs.Step.{step}
use Rattle.hgs_writer.proofs.AloneLemmas.{carried, pieces-of, stops-of}
use Rattle.hgs_writer.proofs.laws.transactions_leave_what_they_answer.Goals as goal

pub returns : goal.returns
returns c = record {
  answered = λ t r command next who p planned answer locking carrying s valid accepted ready are is rev node locks done.
      (carried c.laws_below.ensures t r command next who p planned answer locking carrying s valid accepted ready are is rev node locks done).0;
  pieces = λ t r command next who p planned answer locking carrying s valid accepted ready are is rev node locks done.
      pieces-of t r (step r command) (locking ++ carrying) (carried c.laws_below.ensures t r command next who p planned answer locking carrying s valid accepted ready are is rev node locks done).1;
  stops = λ t r command next who p planned answer locking carrying d s valid accepted ready are is rev node locks done.
      stops-of c.pieces_end.ensures.stands c.pieces_end.ensures.left_open c.fronts_are_pieces.ensures.of_piece c.fronts_are_pieces.ensures.of_left t r (step r command) s (locking ++ carrying) d
      (carried c.laws_below.ensures t r command next who p planned answer locking carrying s valid accepted ready are is rev node locks done).1;
}
