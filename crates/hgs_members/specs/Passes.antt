-- Marks of changesets, and what one pass over the history makes of them.
use Rattle.std.specs.Prelude.{◌≡◌, ◌↔◌, ℕ, Bool, true, false, ◌||◌, List, Option, Some, None, if◌then◌else◌, slice_index_or, slice_set}
use Rattle.hgs_index.specs.Ancestor.{IsAncestor, IsParent}
use Rattle.hgs_index.specs.Revision.{Parents}
use Rattle.hgs_phases.specs.Moves.{is_marked, marked}

abbrev pub IsMarked : List Bool → ℕ → Type 0
IsMarked marks i = slice_index_or marks i false ≡ true

-- ---- one changeset of a pass

-- a marked one marks its parents
abbrev pub climbed : List Bool → ℕ → Parents → List Bool
climbed marks n e = if slice_index_or marks n false then marked (marked marks e.0) e.1 else marks

-- one with a marked parent is marked
abbrev pub descended : List Bool → ℕ → Parents → List Bool
descended marks n e = if is_marked marks e.0 || is_marked marks e.1 then slice_set marks n true else marks

abbrev pub unmarked : List Bool → Option ℕ → List Bool
unmarked marks None = marks
unmarked marks (Some rev) = slice_set marks rev false

-- a marked one takes the marks of its parents
abbrev pub headed : List Bool → ℕ → Parents → List Bool
headed marks n e = if slice_index_or marks n false then unmarked (unmarked marks e.0) e.1 else marks

-- one with a marked parent loses its mark
abbrev pub rooted : List Bool → ℕ → Parents → List Bool
rooted marks n e = if is_marked marks e.0 || is_marked marks e.1 then slice_set marks n false else marks

-- ---- what a whole pass makes, over these parents

-- the marked ones and their ancestors
abbrev pub AreAncestors : List Parents → List Bool → List Bool → Type 0
AreAncestors history old new = (i : ℕ) → (IsMarked new i ↔ (m : ℕ) × IsMarked old m × IsAncestor history i m)

-- the marked ones and their descendants
abbrev pub AreDescendants : List Parents → List Bool → List Bool → Type 0
AreDescendants history old new = (i : ℕ) → (IsMarked new i ↔ (m : ℕ) × IsMarked old m × IsAncestor history m i)

-- the marked ones that are no parent of a marked one
abbrev pub AreHeads : List Parents → List Bool → List Bool → Type 0
AreHeads history old new = (i : ℕ) → (IsMarked new i ↔ IsMarked old i × ((child : ℕ) → IsMarked old child → IsParent history i child → ⊥))

-- the marked ones that have no marked parent
abbrev pub AreRoots : List Parents → List Bool → List Bool → Type 0
AreRoots history old new = (i : ℕ) → (IsMarked new i ↔ IsMarked old i × ((p : ℕ) → IsMarked old p → IsParent history p i → ⊥))
