-- What the run of a schedule leaves in the sink.
use Rattle.std.specs.Prelude.{◌≡◌, ◌⊎◌, ⊤, ℕ, List, [], ◌++◌, Option, Result, Ok, Err, IfSome}
use Rattle.hgs_bytes.specs.Answer.{Gives}
use Rattle.hgs_files.specs.Streams.{IsWritten}
use Rattle.hgs_input.specs.Read.{is_memory}
use Rattle.hgs_input.specs.declared.fault.InputFault.{InputFault}
use Rattle.hgs_schedule.specs.Read.{read_schedule}
use Rattle.hgs_schedule.specs.declared.event.Event.{Event}
use Rattle.hgs_schedule.specs.declared.event.Schedule.{Schedule}
use Rattle.hgs_top.specs.Orders.{ended_status, ended_text}
use Rattle.hgs_top.specs.Run.{EndsLine, IsCut, memory_line}
use Rattle.hgs_top.specs.Words.{Request, to_answer, to_do, to_play, to_session, to_verify, to_generate}
use Rattle.hgs_top.specs.declared.ended.Ended.TheVariants.{NoInput, NoRecord}
use Rattle.hgs_world.specs.Plays.{PlaysTo}

-- How it ends where these events are left, and those before them write this text. None is left, and all of the text was written. Or there
-- was no memory for the next event, which is said behind the text. Or the sink failed or had no memory, and did not take all of what was
-- to be written.
abbrev pub EndsPlay : List Event → List ℕ → ℕ → Option (List ℕ) → Option (List ℕ) → Type 0
EndsPlay left text status old new =
    ((status ≡ 0) × (left ≡ []) × IsWritten old new text)
    ⊎ (((status ≡ 30) × IsWritten old new (text ++ memory_line))
    ⊎ (((status ≡ 19) ⊎ (status ≡ 30)) × (IsCut old new text ⊎ IsCut old new (text ++ memory_line))))

-- The first events of the schedule happened, one after another from a new repository on, and what they write was written, as far as the
-- end of the run says.
abbrev pub WritesPlay : Schedule → ℕ → Option (List ℕ) → Option (List ℕ) → Type 0
WritesPlay s status old new = (left : List Event) × (text : List ℕ) × PlaysTo s left text × EndsPlay left text status old new

-- ---- the input

-- the schedule that the input is, or its first fault, where the input is told
abbrev pub GaveSchedule : Option (List ℕ) → Result Schedule InputFault → Type 0
GaveSchedule left given = IfSome left (λ bytes. Gives is_memory (λ s. s) given (read_schedule bytes))

-- a schedule is played; a fault is said, and nothing else
abbrev pub PlaysGiven : Result Schedule InputFault → ℕ → Option (List ℕ) → Option (List ℕ) → Type 0
PlaysGiven (Ok s) status old new = WritesPlay s status old new
PlaysGiven (Err fault) status old new = EndsLine (ended_text (NoRecord fault)) (ended_status (NoRecord fault)) status old new

-- the input failed, which is said alone; or it gave a schedule or a fault
abbrev pub PlaysInput : Option (List ℕ) → ℕ → Option (List ℕ) → Option (List ℕ) → Type 0
PlaysInput left status old new =
    EndsLine (ended_text NoInput) (ended_status NoInput) status old new ⊎ ((given : Result Schedule InputFault) × GaveSchedule left given × PlaysGiven given status old new)

-- A run that plays writes what the schedule on its input gives.
abbrev pub PlaysAsked : Result Request ℕ → Option (List ℕ) → ℕ → Option (List ℕ) → Option (List ℕ) → Type 0
PlaysAsked (Ok to_play) left status old new = PlaysInput left status old new
PlaysAsked (Ok to_session) left status old new = ⊤
PlaysAsked (Ok (to_answer question)) left status old new = ⊤
PlaysAsked (Ok (to_do job)) left status old new = ⊤
PlaysAsked (Ok (to_verify jobs)) left status old new = ⊤
PlaysAsked (Ok (to_generate seed count)) left status old new = ⊤
PlaysAsked (Err place) left status old new = ⊤
