use Rattle.hgs_script.specs.Script.{jobs_of_each, script_text}
use Rattle.hgs_schedule.specs.Theorems.LineLemmas.{Words}
use Rattle.hgs_script.proofs.TextLemmas.{text_is}
use Rattle.hgs_script.proofs.laws.script_written_then_read.Goals as goal

pub returns : goal.returns
returns c says count tasks least most can room size =
    let said = c.words_written_then_read.ensures in
    let words : Words = record { numbers = said.numbers; digits = said.digits; names = said.names } in
    c.scripts_are_read.ensures (script_text says count tasks) (record { workers = jobs_of_each 0 count tasks }) (text_is words says count tasks least most can room size)
