use Rattle.std.proofs.Common.{◌≡◌, ◌≤◌, ℕ, List, ◌+◌, inr, length, Ok, Err, IfSome, take, sym, subst}
use Rattle.hgs_input.specs.Record.{most_input}
use Rattle.hgs_input.specs.declared.fault.InputFault.TheVariants as input_faults
use Rattle.hgs_top.proofs.InputLemmas.{gave_schedule}
use Rattle.hgs_top.proofs.PlayLemmas.{no_memory_for_it}
use Rattle.hgs_top.proofs.play.run_play.Goals as goal

pub play-requires : goal.play-requires
play-requires g c = (c.read_schedules_can_be_played.ensures c.deref.result.now c.in-Ok-read_schedule.schedule c.in-Ok-read_schedule.ensures).events

pub returns-in-Err-Memory-clause-plays : goal.returns-in-Err-Memory-clause-plays
returns-in-Err-Memory-clause-plays g c = inr (Err input_faults.Memory, no_memory_for_it (g.S.Source.left c.args.input.now), c.end_with.ensures.line)

pub returns-in-Ok-read_schedule-clause-plays : goal.returns-in-Ok-read_schedule-clause-plays
returns-in-Ok-read_schedule-clause-plays g c =
    let left = g.S.Source.left c.args.input.now in
    let taken = subst (λ bytes. IfSome left (λ all. bytes ≡ take (most_input + 1) all)) (sym c.deref.ensures.value) c.in-Ok.ensures.read in
    inr (Ok c.in-Ok-read_schedule.schedule, gave_schedule c.long_inputs_are_decided.ensures left c.deref.result.now (Ok c.in-Ok-read_schedule.schedule) taken c.in-Ok-read_schedule.ensures, c.play.ensures.plays)

pub returns-clause-plays : goal.returns-clause-plays
returns-clause-plays g c =
    let left = g.S.Source.left c.args.input.now in
    let taken = subst (λ bytes. IfSome left (λ all. bytes ≡ take (most_input + 1) all)) (sym c.deref.ensures.value) c.in-Ok.ensures.read in
    inr (Err c.in-Err.fault, gave_schedule c.long_inputs_are_decided.ensures left c.deref.result.now (Err c.in-Err.fault) taken c.in-Err.ensures, c.say-in-Err.ensures.line)

pub returns-in-Ok-read_schedule-clause-whole : goal.returns-in-Ok-read_schedule-clause-whole
returns-in-Ok-read_schedule-clause-whole g c =
    let is = c.read_schedules_are_schedules.ensures c.deref.result.now c.in-Ok-read_schedule.schedule c.in-Ok-read_schedule.ensures in
    λ z. c.in-Ok.ensures.whole (subst (λ (bytes : List ℕ). length bytes ≤ most_input) c.deref.ensures.value is.size)
