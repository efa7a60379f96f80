-- The windows in which the chunks of changesets are read, oldest first.
use Rattle.std.specs.Prelude.{ℕ, zero, suc, ◌+◌, ◌-◌, Bool, ◌&&◌, ◌==◌, nat_le, nat_lt, List, [], take, drop, unwrap_or, Option, Some, None, Result, Ok, Err, slice_get, if◌then◌else◌}
use Rattle.std.specs.Option.{option_map}
use Rattle.hgs_index.specs.ChangeText.{Change}
use Rattle.hgs_index.specs.declared.kinds.Span.{Span}
use Rattle.hgs_revlog.specs.Log.{Log}
use Rattle.hgs_revlog.specs.Text.{span_in}
use Rattle.hgs_load.specs.declared.answer.ReadAnswer.{ReadAnswer}
use Rattle.hgs_load.specs.Asks.{Asks, answer, read, then_asks}
use Rattle.hgs_load.specs.View.{View}
use Rattle.hgs_reader.specs.Line.{change_at, chunks_path}
use Rattle.hgs_branches.specs.declared.window.Run.{Run}
use Rattle.hgs_branches.specs.declared.window.Window.{Window}

abbrev pub span_or_empty : Option Span → Span
span_or_empty None = record { from = 0; len = 0 }
span_or_empty (Some span) = span

-- where the chunk of a changeset stands in its file
abbrev pub chunk_span : Log → ℕ → Span
chunk_span log rev = span_or_empty (option_map (span_in log.inline rev) (slice_get log.entries rev))

-- the most bytes of a window with more than one chunk
abbrev pub most_window : ℕ
most_window = 262144

abbrev pub longer : Span → Span → Span
longer span chunk = record { from = span.from; len = span.len + chunk.len }

-- whether the chunk stands right behind, and both are not too long for one read
abbrev pub goes_on : Span → Span → Bool
goes_on span chunk = (span.from + span.len == chunk.from) && nat_le (longer span chunk).len most_window

-- on over the chunks of so many changesets, as long as each goes on from those before it
abbrev pub on_over : (ℕ → Span) → Run → ℕ → Run
on_over chunk run zero = run
on_over chunk run (suc n) = if goes_on run.span (chunk run.end) then on_over chunk (record { span = longer run.span (chunk run.end); end = suc run.end }) n else run

-- The window that begins with the chunk of this changeset: chunks that stand right behind one another, of at most 262,144 bytes together, and at least this one.
abbrev pub window_of : Log → ℕ → ℕ → Run
window_of log rev upto = on_over (chunk_span log) (record { span = chunk_span log rev; end = suc rev }) (upto - suc rev)

-- what was read of the window is this of the chunk
abbrev pub chunk_in : Window → Span → List ℕ
chunk_in window chunk = take chunk.len (drop (chunk.from - window.run.span.from) (unwrap_or window.part []))

abbrev pub no_window : ℕ → Window
no_window rev = record { run = record { span = record { from = 0; len = 0 }; end = rev }; part = None }

-- one read of a window
abbrev pub window_asks : List ℕ → Run → Asks (Result Window ReadAnswer)
window_asks path run = read path run.span.from run.span.len (λ part. answer (Ok (record { run = run; part = part })))

-- the window in which the chunk of a changeset stands: this one, or the one that begins with it
abbrev pub held_asks : View → Window → ℕ → ℕ → Asks (Result Window ReadAnswer)
held_asks view window rev upto =
    if nat_lt rev window.run.end then answer (Ok window) else window_asks (chunks_path view.changelog.inline) (window_of view.changelog rev upto)

-- where it stands
abbrev pub held_run : View → Window → ℕ → ℕ → Run
held_run view window rev upto = if nat_lt rev window.run.end then window.run else window_of view.changelog rev upto

-- nothing is asked behind a changeset that is refused
abbrev pub behind_change : Result Change ReadAnswer → Asks (Result Unit ReadAnswer) → Asks (Result Unit ReadAnswer)
behind_change (Ok change) rest = rest
behind_change (Err e) rest = answer (Err e)

-- so many changesets from this one on, each from the window in which its chunk stands
abbrev pub changes_behind : View → ℕ → Window → ℕ → ℕ → Asks (Result Unit ReadAnswer)
changes_behind view upto window rev zero = answer (Ok tt)
changes_behind view upto window rev (suc n) =
    then_asks (held_asks view window rev upto) (λ next. behind_change (change_at view rev (chunk_in next (chunk_span view.changelog rev))) (changes_behind view upto next (suc rev) n))

-- What reading the changesets asks from one number up to another: their chunks, from the first on, window by window.
abbrev pub changes_asks : View → ℕ → ℕ → Asks (Result Unit ReadAnswer)
changes_asks view from upto = changes_behind view upto (no_window from) from (upto - from)
