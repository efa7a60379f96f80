use Rattle.hgs_schedule.specs.Schedule.{schedule_text}
use Rattle.hgs_schedule.specs.Theorems.LineLemmas.{Words}
use Rattle.hgs_schedule.proofs.TextLemmas.{text_is}
use Rattle.hgs_schedule.proofs.laws.schedule_written_then_read.Goals as goal

pub returns : goal.returns
returns c says s can written size =
    let said = c.words_written_then_read.ensures in
    let words : Words = record { numbers = said.numbers; digits = said.digits; names = said.names } in
    c.schedules_are_read.ensures (schedule_text says s) s (text_is words c.imports_stand_in_front.ensures.written says s can written size)
