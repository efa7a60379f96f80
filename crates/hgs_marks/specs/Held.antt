-- Bookmarks as the code holds them.
use Rattle.std.specs.Prelude.{ℕ, Vec}
use Rattle.hgs_index.specs.declared.node.Node.{Node}
use Rattle.hgs_marks.specs.Bookmarks.{Mark}
use Rattle.hgs_marks.specs.Dirstate.{Dirstate, Entry}
use Rattle.hgs_marks.specs.declared.dirstate.Dirstate.{Dirstate as CodeDirstate}
use Rattle.hgs_marks.specs.declared.dirstate.Entry.{Entry as CodeEntry}
use Rattle.hgs_marks.specs.declared.bookmarks.Mark.{Mark as CodeMark}

-- what contracts see of a bookmark
abbrev pub view_mark : CodeMark → Mark
view_mark m = record { name = m.name.now; node = m.node.0 }

-- the bookmark of a name and its node
abbrev pub mark_in : {Y : Type 0} → Vec ℕ Y × Node → Mark
mark_in p = record { name = p.0.items; node = p.1.0 }

-- what contracts see of the working parents and the tracked paths
abbrev pub view_dirstate : CodeDirstate → Dirstate
view_dirstate d = record { p1 = d.p1.0; p2 = d.p2.0; paths = d.paths }

abbrev pub view_entry : CodeEntry → Entry
view_entry e = record { state = e.state; name = e.name.now }
