-- What a name of a revision names.
use Rattle.std.specs.Prelude.{ℕ, List, length, Option, Some, None}
use Rattle.hgs_index.specs.declared.entry.Entry.{Entry}
use Rattle.hgs_marks.specs.Bookmarks.{Mark, node_of}
use Rattle.hgs_model.specs.Names.{named_by}
use Rattle.hgs_revlog.specs.Log.{nodes_of, place_of}
use Rattle.hgs_load.specs.View.{View}

abbrev pub place_of_some : List Entry → Option (List ℕ) → Option ℕ
place_of_some entries None = None
place_of_some entries (Some node) = place_of entries node

-- the revision of a bookmark; one of an unknown node names nothing
abbrev pub mark_named : List Entry → List Mark → List ℕ → Option ℕ
mark_named entries marks name = place_of_some entries (node_of name marks)

-- what a name names among loaded entries, by the rule of the plain repository
abbrev pub named_in : List Entry → List Mark → Option ℕ → List ℕ → Option ℕ
named_in entries marks first name = named_by (length entries) (nodes_of entries) (mark_named entries marks) first name

abbrev pub named : View → List ℕ → Option ℕ
named view name = named_in view.changelog.entries view.bookmarks view.working.0 name
