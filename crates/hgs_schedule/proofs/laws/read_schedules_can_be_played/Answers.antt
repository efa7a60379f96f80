use Rattle.hgs_schedule.proofs.PlayLemmas.{schedule_can}
use Rattle.hgs_schedule.proofs.laws.read_schedules_can_be_played.Goals as goal

pub returns : goal.returns
returns c bytes s e = schedule_can c.imports_stand_in_front.ensures.valid bytes s (c.read_schedules_are_schedules.ensures bytes s e)
