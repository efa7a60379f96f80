-- What an input is read as: a schedule, or the first fault.
use Rattle.std.specs.Prelude.{ℕ, zero, suc, ◌-◌, ◌^◌, Bool, true, false, ◌&&◌, ◌==◌, not, nat_le, nat_lt, List, [], length, Option, Some, None, Result, Ok, Err, codes, if◌then◌else◌}
use Rattle.std.specs.List.{list_any}
use Rattle.std.specs.Option.{option_map, option_or}
use Rattle.hgs_bytes.specs.Bytes.{same}
use Rattle.hgs_bytes.specs.Text.{split}
use Rattle.hgs_index.specs.MarkName.{is_mark_name}
use Rattle.hgs_model.specs.declared.command.Command.{Command}
use Rattle.hgs_model.specs.declared.command.Command.TheVariants.{Commit, Import, Move, Mark, Unmark}
use Rattle.hgs_model.specs.declared.phase.Phase.{Phase}
use Rattle.hgs_model.specs.Phase.{phase_named}
use Rattle.hgs_input.specs.declared.fault.InputFault.{InputFault}
use Rattle.hgs_input.specs.Import.{import_from}
use Rattle.hgs_input.specs.Read.{Rest, Reading, ◌>>=◌, bad_at, place, next_line, required_at, required, behind, and_then, where_true, number_up_to, more, nothing_behind, record_from, start_of}
use Rattle.hgs_schedule.specs.declared.event.Event.{Event}
use Rattle.hgs_schedule.specs.declared.event.Event.TheVariants as events
use Rattle.hgs_schedule.specs.declared.event.Schedule.{Schedule}

abbrev pub most_readers : ℕ
most_readers = 64

-- one less than the greatest number of 64 bits
abbrev pub most_number : ℕ
most_number = 2 ^ 64 - 2

-- ---- numbers

-- a number of bytes; each above the greatest of 64 bits counts as that
abbrev pub number_of : List ℕ → Option ℕ
number_of text = number_up_to most_number text

-- the number of one of so many readers
abbrev pub reader_of : ℕ → List ℕ → Option ℕ
reader_of readers text = and_then (number_of text) (λ n. where_true (nat_lt n readers) n)

-- ---- what a line says

abbrev pub readers_of : List ℕ → Option ℕ
readers_of line = and_then (behind (codes "play ") line) (λ text. and_then (number_of text) (λ n. where_true (nat_le 1 n && nat_le n most_readers) n))

-- the events that are words alone
abbrev pub word_event : List ℕ → Option Event
word_event line =
    if same line (codes "write") then Some (events.Write None)
    else if same line (codes "until publish") then Some events.UntilPublish
    else if same line (codes "until clean") then Some events.UntilClean
    else if same line (codes "finish") then Some events.Finish
    else where_true (same line (codes "recover")) events.Recover

abbrev pub count_behind : List ℕ → List ℕ → Option ℕ
count_behind word line = and_then (behind word line) number_of

-- at least one byte
abbrev pub written_of : List ℕ → Option Event
written_of line = and_then (count_behind (codes "write ") line) (λ n. where_true (nat_le 1 n) (events.Write (Some n)))

-- the events that say a number of bytes
abbrev pub bytes_event : List ℕ → Option Event
bytes_event line = option_or (written_of line)
    (option_or (option_map (λ n. events.Fail n) (count_behind (codes "fail ") line))
    (option_map (λ n. events.Stop n) (count_behind (codes "stop ") line)))

abbrev pub reader_behind : List ℕ → ℕ → List ℕ → Option ℕ
reader_behind word readers line = and_then (behind word line) (reader_of readers)

-- the events that say a reader and nothing else
abbrev pub reader_event : ℕ → List ℕ → Option Event
reader_event readers line = option_or (option_map (λ n. events.Open n) (reader_behind (codes "open ") readers line))
    (option_or (option_map (λ n. events.Read n) (reader_behind (codes "read ") readers line))
    (option_or (option_map (λ n. events.Load n) (reader_behind (codes "load ") readers line))
    (option_or (option_map (λ n. events.Log n) (reader_behind (codes "log ") readers line))
    (option_map (λ n. events.Bookmarks n) (reader_behind (codes "bookmarks ") readers line)))))

-- a reader, a revision's name without a space, and a path
abbrev pub cat_of : ℕ → List ℕ → Option Event
cat_of readers line = and_then (behind (codes "cat ") line) (λ text. and_then (split 32 text) (λ p. and_then (reader_of readers p.0) (λ reader.
    and_then (split 32 p.1) (λ q. Some (events.Cat reader q.0 q.1)))))

abbrev pub has_space : List ℕ → Bool
has_space text = list_any (λ b. b == 32) text

abbrev pub phase_question_of : ℕ → List ℕ → Option Event
phase_question_of readers line = and_then (behind (codes "phase ") line) (λ text. and_then (split 32 text) (λ p. and_then (reader_of readers p.0) (λ reader.
    where_true (not (has_space p.1)) (events.Phase reader p.1))))

abbrev pub target_parts : List ℕ → Option (List ℕ × List ℕ) → Option (Phase × Bool)
target_parts text None = and_then (phase_named text) (λ phase. Some (phase, false))
target_parts text (Some p) = and_then (phase_named p.0) (λ phase. where_true (same p.1 (codes "force")) (phase, true))

-- a phase, and whether ` force` stands behind it
abbrev pub target_of : List ℕ → Option (Phase × Bool)
target_of text = target_parts text (split 32 text)

abbrev pub move_of : List ℕ → Option Command
move_of line = and_then (behind (codes "begin phase ") line) (λ text. and_then (split 32 text) (λ p. and_then (target_of p.1) (λ target.
    Some (Move p.0 target.0 target.1))))

abbrev pub mark_of : List ℕ → Option Command
mark_of line = and_then (behind (codes "begin bookmark ") line) (λ text. and_then (split 32 text) (λ p. where_true (is_mark_name p.1) (Mark p.1 p.0)))

abbrev pub unmark_of : List ℕ → Option Command
unmark_of line = and_then (behind (codes "begin unbookmark ") line) (λ name. where_true (is_mark_name name) (Unmark name))

-- the command of a writer, where a line says all of it
abbrev pub begin_of : List ℕ → Option Command
begin_of line = option_or (move_of line) (option_or (mark_of line) (unmark_of line))

-- the events that say names
abbrev pub asked_of : ℕ → List ℕ → Option Event
asked_of readers line = option_or (option_map (λ c. events.Begin c) (begin_of line)) (option_or (cat_of readers line) (phase_question_of readers line))

-- the event that a line says alone, where there are so many readers
abbrev pub event_of : ℕ → List ℕ → Option Event
event_of readers line = option_or (word_event line) (option_or (bytes_event line) (option_or (reader_event readers line) (asked_of readers line)))

-- ---- the schedule

-- at the last line no event; at a commit its record, and at an import its records; else what the line says
abbrev pub event_at : ℕ → ℕ → List ℕ → Rest → Reading (Option Event)
event_at at readers line rest =
    if same line (codes "end") then Ok (None, rest)
    else if same line (codes "begin commit") then (record_from rest >>= λ c. Ok (Some (events.Begin (Commit c.0)), c.1))
    else if same line (codes "begin import") then (import_from rest >>= λ c. Ok (Some (events.Begin (Import c.0)), c.1))
    else required_at at (option_map (λ e. Some e) (event_of readers line)) rest

-- the next event, where the schedule is not at its end
abbrev pub next_event : ℕ → Rest → Reading (Option Event)
next_event readers r = next_line r >>= λ l. event_at (place r) readers l.0 l.1

-- these events and those behind them; n is no less than the number of bytes that are left
abbrev pub events_from : ℕ → ℕ → List Event → Rest → Reading (List Event)
events_from readers zero done r = Err (bad_at r.whole)
events_from readers (suc n) done r = next_event readers r >>= λ e. more done e.0 e.1 (λ all rest. events_from readers n all rest)

abbrev pub schedule_from : Rest → Reading Schedule
schedule_from r = do
  readers ← required readers_of r
  done ← events_from readers.0 (length readers.1.bytes) [] readers.1
  Ok (record { readers = readers.0; events = done.0 }, done.1)

-- the schedule with nothing behind it, or the first fault of the input
abbrev pub read_schedule : List ℕ → Result Schedule InputFault
read_schedule bytes = do
  schedule ← schedule_from (start_of bytes)
  end ← nothing_behind schedule.1
  Ok schedule.0
