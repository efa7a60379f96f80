-- What opening a session asks.
use Rattle.std.specs.Prelude.{ℕ, List, [], codes, Result, Ok, Err}
use Rattle.hgs_marks.specs.Bookmarks.{Mark}
use Rattle.hgs_phases.specs.Phases.{phases_by}
use Rattle.hgs_phases.specs.declared.roots.Root.{Root}
use Rattle.hgs_revlog.specs.declared.fault.Tail.TheVariants.{Ignore}
use Rattle.hgs_revlog.specs.Load.{loaded}
use Rattle.hgs_revlog.specs.Log.{Log}
use Rattle.hgs_load.specs.declared.answer.ReadAnswer.{ReadAnswer}
use Rattle.hgs_load.specs.Asks.{Asks, answer, then_asks}
use Rattle.hgs_load.specs.Form.{unless_inline, in_one_read, either_log_of}
use Rattle.hgs_load.specs.Marks.{Nodes, Working, bookmarks_path, dirstate_path, roots_path, bookmarks_answer, dirstate_answer, roots_answer, working_answer}
use Rattle.hgs_load.specs.Requirements.{requires_answer}
use Rattle.hgs_load.specs.View.{View, changelog_index, most_pieces, pieces_then, log_answer}
use Rattle.hgs_load.specs.Whole.{whole_asks}

abbrev pub requires_path : List ℕ
requires_path = codes "requires"

-- the bytes above which a file is refused
abbrev pub most_requires : ℕ
most_requires = 65536

abbrev pub most_bookmarks_text : ℕ
most_bookmarks_text = 16777216

abbrev pub most_dirstate : ℕ
most_dirstate = 33554432

abbrev pub most_roots : ℕ
most_roots = 67108864

abbrev pub requires_asks : Asks (Result Unit ReadAnswer)
requires_asks = whole_asks requires_path most_requires requires_answer

-- the history of a separate index; a rest that is no whole entry is passed over
abbrev pub log_of : List ℕ → Result Log ReadAnswer
log_of index = log_answer changelog_index (loaded Ignore index)

-- a separate index in pieces
abbrev pub separate_log_asks : Asks (Result Log ReadAnswer)
separate_log_asks = pieces_then changelog_index most_pieces [] (λ index. answer (log_of index))

-- an inline one once more from its first byte on, in one read
abbrev pub inline_log_asks : Asks (Result Log ReadAnswer)
inline_log_asks = in_one_read separate_log_asks either_log_of

-- The first piece says which.
abbrev pub log_asks : Asks (Result Log ReadAnswer)
log_asks = unless_inline inline_log_asks separate_log_asks

abbrev pub bookmarks_asks : Asks (Result (List Mark) ReadAnswer)
bookmarks_asks = whole_asks bookmarks_path most_bookmarks_text bookmarks_answer

abbrev pub dirstate_asks : Asks (Result Nodes ReadAnswer)
dirstate_asks = whole_asks dirstate_path most_dirstate dirstate_answer

abbrev pub roots_asks : Asks (Result (List Root) ReadAnswer)
roots_asks = whole_asks roots_path most_roots roots_answer

abbrev pub view_with : List Mark → Log → List Root → Result Working ReadAnswer → Result View ReadAnswer
view_with marks log roots (Err e) = Err e
view_with marks log roots (Ok working) = Ok (record { changelog = log; bookmarks = marks; working = working; phases = phases_by roots log.entries })

-- What was read gives a view. That the working parents are in the history is tested last.
abbrev pub view_of : List Mark → Nodes → Log → List Root → Result View ReadAnswer
view_of marks nodes log roots = view_with marks log roots (working_answer log.entries nodes)

abbrev pub open_asks : Asks (Result View ReadAnswer)
open_asks =
    then_asks requires_asks (λ x.
    then_asks bookmarks_asks (λ marks.
    then_asks dirstate_asks (λ nodes.
    then_asks log_asks (λ log.
    then_asks roots_asks (λ roots.
    answer (view_of marks nodes log roots))))))
