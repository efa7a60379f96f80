-- Readers: what they have loaded, and what is written of that.
use Rattle.std.specs.Prelude.{◌≡◌, ℕ, zero, suc, List, [], ◌++◌, length, Option, Some, None, Result, Ok, Err, codes, slice_get}
use Rattle.std.specs.Option.{option_map}
use Rattle.std.specs.Bool.{MatchBool}
use Rattle.std.specs.Prelude.{⊤}
use Rattle.hgs_files.specs.Tree.{Tree}
use Rattle.hgs_model.specs.Phase.{phase_name}
use Rattle.hgs_model.specs.declared.phase.Phase.{Phase}
use Rattle.hgs_load.specs.Answer.{is_of_outside, refusal_line}
use Rattle.hgs_load.specs.Asks.{Asks, answer, read, at_rest, part_of}
use Rattle.hgs_reader.specs.Contents.{cat_asks}
use Rattle.hgs_reader.specs.Line.{line_asks}
use Rattle.hgs_load.specs.Load.{asks_of}
use Rattle.hgs_reader.specs.Names.{named}
use Rattle.hgs_load.specs.Open.{open_asks}
use Rattle.hgs_load.specs.Refresh.{refresh_asks}
use Rattle.hgs_load.specs.View.{View}
use Rattle.hgs_load.specs.declared.answer.ReadAnswer.{ReadAnswer}
use Rattle.hgs_world.specs.Texts.{loaded_line, word_line}
use Rattle.hgs_world.specs.declared.reading.Reading.{Reading}

-- ---- what is asked of a load

-- a text, or the line of the refusal
abbrev pub told : Result (List ℕ) ReadAnswer → List ℕ
told (Ok text) = text
told (Err e) = refusal_line e

abbrev pub line_then : Result (List ℕ) ReadAnswer → List ℕ → List ℕ
line_then (Ok line) rest = line ++ rest
line_then (Err e) rest = refusal_line e

-- the lines of so many changesets, newest first, up to the first that is refused
abbrev pub lines_down : (ℕ → Result (List ℕ) ReadAnswer) → ℕ → List ℕ
lines_down line zero = []
lines_down line (suc n) = line_then (line n) (lines_down line n)

abbrev pub lines_below : Tree → View → ℕ → List ℕ
lines_below t view n = lines_down (λ rev. at_rest t (line_asks view rev)) n

abbrev pub log_text : Tree → View → List ℕ
log_text t view = lines_below t view (length view.changelog.entries)

abbrev pub unknown_line : List ℕ
unknown_line = word_line (codes "abort: unknown revision")

abbrev pub of_named : Option ℕ → (ℕ → List ℕ) → List ℕ
of_named None text = unknown_line
of_named (Some rev) text = text rev

abbrev pub body_text : Tree → View → List ℕ → List ℕ → List ℕ
body_text t view name path = of_named (named view name) (λ rev. told (at_rest t (cat_asks view rev path)))

abbrev pub phase_line : Option Phase → List ℕ
phase_line None = []
phase_line (Some phase) = word_line (phase_name phase)

abbrev pub phase_text : View → List ℕ → List ℕ
phase_text view name = of_named (named view name) (λ rev. phase_line (slice_get view.phases rev))

-- ---- a load

-- what a reader has loaded last, and the question of the load that is under way
pub record Sight : Type 0 where
  pub last : Option View
  pub load : Option (Asks (Result View ReadAnswer))

abbrev pub sight_of : Reading → Sight
sight_of r = record { last = r.session; load = option_map asks_of r.load }

-- a reader that has loaded nothing
abbrev pub no_sight : Sight
no_sight = record { last = None; load = None }

-- what a load asks for: all, or after a load all but `requires`
abbrev pub load_asks : Option View → Asks (Result View ReadAnswer)
load_asks None = open_asks
load_asks (Some view) = refresh_asks view

-- the question once its read is answered from a tree
abbrev pub next_question : Tree → Asks (Result View ReadAnswer) → Asks (Result View ReadAnswer)
next_question t (answer x) = answer x
next_question t (read path from most rest) = rest (part_of t path from most)

-- A read of a load was answered; or it was refused so, which is the load's answer, unless there was no memory.
abbrev pub IsRead : Tree → Asks (Result View ReadAnswer) → Asks (Result View ReadAnswer) → Result Unit ReadAnswer → Type 0
IsRead t old new (Ok x) = new ≡ next_question t old
IsRead t old new (Err e) = MatchBool (is_of_outside e) ⊤ (next_question t old ≡ answer (Err e))

-- what a load has come to: it goes on, or has its answer
abbrev pub sight_at : Option View → Asks (Result View ReadAnswer) → Sight
sight_at last (read path from most rest) = record { last = last; load = Some (read path from most rest) }
sight_at last (answer (Ok view)) = record { last = Some view; load = None }
sight_at last (answer (Err e)) = record { last = last; load = None }

abbrev pub line_of : Asks (Result View ReadAnswer) → List ℕ
line_of (read path from most rest) = word_line (codes "read")
line_of (answer (Ok view)) = loaded_line (length view.changelog.entries)
line_of (answer (Err e)) = refusal_line e

-- A load had this answer: the new view, or a refusal, which changes nothing, unless there was no memory.
abbrev pub IsLoaded : Result View ReadAnswer → Sight → Sight → Result Unit ReadAnswer → Type 0
IsLoaded given old new (Ok x) = (view : View) × (given ≡ Ok view) × (new ≡ record { last = Some view; load = None })
IsLoaded given old new (Err e) = (new ≡ old) × MatchBool (is_of_outside e) ⊤ (given ≡ Err e)

-- the answer of a load whose reads are all made of one tree
abbrev pub load_answer : Tree → Option View → Result View ReadAnswer
load_answer t last = at_rest t (load_asks last)

-- a reader that has made all reads of a load at once, and the line of that
abbrev pub loaded_by : Tree → Sight → Sight
loaded_by t s = sight_at s.last (answer (load_answer t s.last))

abbrev pub load_line : Tree → Sight → List ℕ
load_line t s = line_of (answer (load_answer t s.last))

-- a reader that begins a load
abbrev pub opened : Sight → Sight
opened s = record s { load = Some (load_asks s.last) }

abbrev pub loading_line : List ℕ
loading_line = word_line (codes "loading")

abbrev pub unloaded_line : List ℕ
unloaded_line = word_line (codes "unloaded")

-- what a reader becomes by a read, and what that writes
abbrev pub read_by : Tree → Sight → Option (Asks (Result View ReadAnswer)) → Sight
read_by t s None = s
read_by t s (Some question) = sight_at s.last (next_question t question)

abbrev pub read_line : Tree → Option (Asks (Result View ReadAnswer)) → List ℕ
read_line t None = unloaded_line
read_line t (Some question) = line_of (next_question t question)

abbrev pub of_last : Option View → (View → List ℕ) → List ℕ
of_last None text = unloaded_line
of_last (Some view) text = text view
