-- The windows of the file in which the chunks of a changelog stand.
use Rattle.std.specs.Prelude.{ℕ, zero, suc, ◌+◌, ◌-◌, Bool, ◌&&◌, nat_le, List, [], take, drop, unwrap_or, Option, Some, None, Result, Ok, Err, slice_get, if◌then◌else◌}
use Rattle.std.specs.Option.{option_map}
use Rattle.hgs_index.specs.declared.kinds.Span.{Span}
use Rattle.hgs_revlog.specs.Log.{Log}
use Rattle.hgs_revlog.specs.Text.{span_in}
use Rattle.hgs_load.specs.declared.answer.ReadAnswer.{ReadAnswer}
use Rattle.hgs_load.specs.Asks.{Asks, answer, read, then_asks}
use Rattle.hgs_load.specs.View.{View}
use Rattle.hgs_reader.specs.Line.{chunks_path, line_at}
use Rattle.hgs_top.specs.declared.window.Window.{Window}

abbrev pub span_or_empty : Option Span → Span
span_or_empty None = record { from = 0; len = 0 }
span_or_empty (Some span) = span

-- where the chunk of a changeset stands in its file
abbrev pub chunk_span : Log → ℕ → Span
chunk_span log rev = span_or_empty (option_map (span_in log.inline rev) (slice_get log.entries rev))

-- the most bytes of a window with more than one chunk
abbrev pub most_window : ℕ
most_window = 262144

-- the window with the chunk before it, and with what stands between
abbrev pub back_to : Span → Span → Span
back_to window chunk = record { from = chunk.from; len = window.len + (window.from - chunk.from) }

abbrev pub goes_back : Span → Span → Bool
goes_back window chunk = nat_le chunk.from window.from && nat_le (back_to window chunk).len most_window

-- back over the chunks of so many changesets, newest first, as long as all are at most so many bytes
abbrev pub back_over : (ℕ → Span) → Span → ℕ → Span
back_over chunk window zero = window
back_over chunk window (suc n) = if goes_back window (chunk n) then back_over chunk (back_to window (chunk n)) n else window

-- The window that ends with the chunk of this changeset: whole chunks of at most 262,144 bytes together, and at least this one.
abbrev pub window_of : Log → ℕ → Span
window_of log rev = back_over (chunk_span log) (chunk_span log rev) rev

-- whether the chunk stands in the window
abbrev pub stands_in : Span → Span → Bool
stands_in window chunk = nat_le window.from chunk.from && nat_le (chunk.from + chunk.len) (window.from + window.len)

-- what was read of the window is this of the chunk
abbrev pub chunk_in : Window → Span → List ℕ
chunk_in window chunk = take chunk.len (drop (chunk.from - window.span.from) (unwrap_or window.part []))

abbrev pub no_window : Window
no_window = record { span = record { from = 0; len = 0 }; part = None }

-- one read of a window
abbrev pub window_asks : List ℕ → Span → Asks (Result Window ReadAnswer)
window_asks path span = read path span.from span.len (λ part. answer (Ok (record { span = span; part = part })))

-- the window in which the chunk of a changeset stands: this one, or the one that ends with it
abbrev pub held_asks : View → Window → ℕ → Asks (Result Window ReadAnswer)
held_asks view window rev =
    if stands_in window.span (chunk_span view.changelog rev) then answer (Ok window) else window_asks (chunks_path view.changelog.inline) (window_of view.changelog rev)

-- nothing is asked behind a line that is refused
abbrev pub behind_line : Result (List ℕ) ReadAnswer → Asks (Result Unit ReadAnswer) → Asks (Result Unit ReadAnswer)
behind_line (Ok line) rest = rest
behind_line (Err e) rest = answer (Err e)

-- the lines of so many changesets, newest first, each from the window in which its chunk stands
abbrev pub lines_behind : View → Window → ℕ → Asks (Result Unit ReadAnswer)
lines_behind view window zero = answer (Ok tt)
lines_behind view window (suc n) = then_asks (held_asks view window n) (λ next. behind_line (line_at view n (chunk_in next (chunk_span view.changelog n))) (lines_behind view next n))

abbrev pub lines_reads : View → ℕ → Asks (Result Unit ReadAnswer)
lines_reads view n = lines_behind view no_window n
