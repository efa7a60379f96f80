-- The changesets that have no child.
use Rattle.std.specs.Prelude.{ℕ, suc, List, [], ◌∷◌, ◌++◌, Bool, true, false, ◌||◌, ◌==◌, nat_lt, length, Option, Some, None, decimal, slice_set, slice_index_or, if◌then◌else◌}
use Rattle.std.specs.List.{list_any}
use Rattle.hgs_index.specs.declared.entry.Entry.{Entry}
use Rattle.hgs_index.specs.Hex.{hex}
use Rattle.hgs_load.specs.View.{View}

abbrev pub is_parent : ℕ → Option ℕ → Bool
is_parent rev None = false
is_parent rev (Some p) = p == rev

abbrev pub has_parent : ℕ → Entry → Bool
has_parent rev e = is_parent rev e.p1 || is_parent rev e.p2

-- the revision, a space, the node
abbrev pub head_line : ℕ → Entry → List ℕ
head_line rev e = decimal rev ++ 32 ∷ [] ++ hex e.node.0 ++ 10 ∷ []

abbrev pub line_unless : Bool → ℕ → Entry → List ℕ
line_unless has_child rev e = if has_child then [] else head_line rev e

-- the lines of those among these entries, the first of which has this number, that are no parent of any
abbrev pub heads_from : List Entry → ℕ → List Entry → List ℕ
heads_from all rev [] = []
heads_from all rev (e ∷ more) = line_unless (list_any (has_parent rev) all) rev e ++ heads_from all (suc rev) more

-- a line for each changeset without a child, ascending
abbrev pub heads_text : View → List ℕ
heads_text view = heads_from view.changelog.entries 0 view.changelog.entries

-- ---- the same by marks

abbrev pub marked : Option ℕ → List Bool → List Bool
marked None marks = marks
marked (Some p) marks = if nat_lt p (length marks) then slice_set marks p true else marks

-- the marks, and one at each parent of these entries
abbrev pub marked_by : List Entry → List Bool → List Bool
marked_by [] marks = marks
marked_by (e ∷ more) marks = marked_by more (marked e.p2 (marked e.p1 marks))

-- the lines of those among these entries that have no mark
abbrev pub unmarked_from : List Bool → ℕ → List Entry → List ℕ
unmarked_from marks rev [] = []
unmarked_from marks rev (e ∷ more) = line_unless (slice_index_or marks rev false) rev e ++ unmarked_from marks (suc rev) more
