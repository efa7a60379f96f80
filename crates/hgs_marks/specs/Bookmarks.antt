-- The text of the bookmarks: a line for each, a node in hex, a space and the name.
use Rattle.std.specs.Prelude.{◌+◌, ℕ, Bool, true, false, List, [], ◌∷◌, ◌++◌, take, drop, Option, Some, None, Result, Ok, Err, if◌then◌else◌, flat_map}
use Rattle.std.specs.Cmp.Lexicographic.{slice_cmp}
use Rattle.std.specs.Ordering.{nat_cmp, match_ordering}
use Rattle.hgs_bytes.specs.Bytes.{same, begins_with}
use Rattle.hgs_bytes.specs.Text.{Line as TextLine, line, lines_of}
use Rattle.hgs_index.specs.Hex.{hex, node_at}
use Rattle.hgs_marks.specs.declared.fault.MarkFault.{MarkFault}
use Rattle.hgs_marks.specs.declared.fault.MarkFault.TheVariants.{Line, Name, Short, State, Memory}
use Rattle.hgs_index.specs.MarkName.{is_mark_name}

-- a bookmark: its name and the node of its changeset
pub record Mark : Type 0 where
  pub name : List ℕ
  pub node : List ℕ

-- ---- the bookmarks of a repository, in byte order of their names

-- the node of a name
abbrev pub node_of : List ℕ → List Mark → Option (List ℕ)
node_of name [] = None
node_of name (m ∷ marks) = if same name m.name then Some m.node else node_of name marks

-- the bookmarks with this one: in the place of one of the same name, else before the first whose name is above
abbrev pub with_mark : List Mark → Mark → List Mark
with_mark [] new = new ∷ []
with_mark (m ∷ marks) new = match_ordering (slice_cmp nat_cmp new.name m.name) (new ∷ m ∷ marks) (new ∷ marks) (m ∷ with_mark marks new)

-- the bookmarks with these, one after another, so that of two with the same name the later stays
abbrev pub with_marks : List Mark → List Mark → List Mark
with_marks marks [] = marks
with_marks marks (new ∷ more) = with_marks (with_mark marks new) more

-- the bookmarks without the one of this name
abbrev pub without : List ℕ → List Mark → List Mark
without name [] = []
without name (m ∷ marks) = if same name m.name then marks else m ∷ without name marks

-- the bookmarks with this one, which has to have a name that a bookmark can have
abbrev pub set_mark : List Mark → Mark → Result (List Mark) MarkFault
set_mark marks new = if is_mark_name new.name then Ok (with_mark marks new) else Err (Name 0)

-- ---- the text

abbrev pub mark_text : Mark → List ℕ
mark_text m = line (hex m.node ++ 32 ∷ m.name)

abbrev pub bookmarks_text : List Mark → List ℕ
bookmarks_text marks = flat_map mark_text marks

-- ---- the bookmarks that are read

abbrev pub mark_with : ℕ → Option (List ℕ) → List ℕ → Result Mark MarkFault
mark_with n None name = Err (Line n)
mark_with n (Some node) name = if is_mark_name name then Ok (record { name = name; node = node }) else Err (Name n)

-- the bookmark of line n, or its fault
abbrev pub mark_of : ℕ → List ℕ → Result Mark MarkFault
mark_of n text = if begins_with (drop 40 text) (32 ∷ []) then mark_with n (node_at (take 40 text)) (drop 41 text) else Err (Line n)

abbrev pub mark_then : Result Mark MarkFault → Result (List Mark) MarkFault → Result (List Mark) MarkFault
mark_then (Err e) behind = Err e
mark_then (Ok m) (Ok marks) = Ok (m ∷ marks)
mark_then (Ok m) (Err e) = Err e

-- a bookmark for each line, or the first fault, n lines standing before; the last line may lack its LF
abbrev pub marks_from : ℕ → List TextLine → Result (List Mark) MarkFault
marks_from n [] = Ok []
marks_from n (l ∷ ls) = mark_then (mark_of (n + 1) l.0) (marks_from (n + 1) ls)

abbrev pub mark_lines : List ℕ → Result (List Mark) MarkFault
mark_lines text = marks_from 0 (lines_of text)

abbrev pub all_with : List Mark → Result (List Mark) MarkFault → Result (List Mark) MarkFault
all_with marks (Ok more) = Ok (with_marks marks more)
all_with marks (Err e) = Err e

-- the bookmarks of a text, or its first fault
abbrev pub read_bookmarks : List ℕ → Result (List Mark) MarkFault
read_bookmarks text = all_with [] (mark_lines text)

-- the fault that stands for want of memory
abbrev pub is_memory : MarkFault → Bool
is_memory Memory = true
is_memory (Line n) = false
is_memory (Name n) = false
is_memory Short = false
is_memory (State n) = false
