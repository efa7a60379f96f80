-- The texts of the bookmarks and of the working parents.
use Rattle.std.specs.Prelude.{ℕ, List, [], ◌∷◌, ◌++◌, decimal, flat_map, slice_get, Option, Some, None}
use Rattle.hgs_index.specs.Hex.{hex}
use Rattle.hgs_index.specs.declared.entry.Entry.{Entry}
use Rattle.hgs_marks.specs.Bookmarks.{Mark}
use Rattle.hgs_revlog.specs.Log.{place_of}
use Rattle.hgs_reader.specs.Heads.{head_line}
use Rattle.hgs_load.specs.View.{View}

-- the name, the revision and the node, with tabs between
abbrev pub mark_line : Mark → ℕ → List ℕ
mark_line m rev = m.name ++ 9 ∷ [] ++ decimal rev ++ 9 ∷ [] ++ hex m.node ++ 10 ∷ []

abbrev pub shown_mark : Mark → Option ℕ → List ℕ
shown_mark m None = []
shown_mark m (Some rev) = mark_line m rev

abbrev pub marks_shown : List Entry → List Mark → List ℕ
marks_shown entries marks = flat_map (λ m. shown_mark m (place_of entries m.node)) marks

-- a line for each bookmark, in byte order of names; one of an unknown node has none
abbrev pub marks_text : View → List ℕ
marks_text view = marks_shown view.changelog.entries view.bookmarks

abbrev pub line_of_entry : ℕ → Option Entry → List ℕ
line_of_entry rev None = []
line_of_entry rev (Some e) = head_line rev e

abbrev pub parent_shown : List Entry → Option ℕ → List ℕ
parent_shown entries None = []
parent_shown entries (Some rev) = line_of_entry rev (slice_get entries rev)

-- a line for each working parent, the first before the second: the revision, a space, the node
abbrev pub parents_text : View → List ℕ
parents_text view = parent_shown view.changelog.entries view.working.0 ++ parent_shown view.changelog.entries view.working.1
