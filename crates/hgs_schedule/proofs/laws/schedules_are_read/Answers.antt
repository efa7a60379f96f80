use Rattle.hgs_schedule.proofs.ScheduleBack.{schedule_back}
use Rattle.hgs_schedule.proofs.laws.schedules_are_read.Goals as goal

pub returns : goal.returns
returns c = schedule_back c.records_stand_in_front.ensures.read c.imports_stand_in_front.ensures.read
