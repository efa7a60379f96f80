use Rattle.hgs_schedule.proofs.ScheduleFound.{schedule_found}
use Rattle.hgs_schedule.proofs.laws.read_schedules_are_schedules.Goals as goal

pub returns : goal.returns
returns c = schedule_found c.records_stand_in_front.ensures.is c.imports_stand_in_front.ensures.is
