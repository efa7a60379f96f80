-- The text of a set: whether it holds a changeset, as a test, and a line for each that it holds.
use Rattle.std.specs.Prelude.{ℕ, suc, Bool, true, false, not, ◌&&◌, ◌||◌, ◌==◌, List, [], ◌∷◌, ◌++◌, length, slice_get, slice_index_or, Option, Some, None, if◌then◌else◌, decimal}
use Rattle.std.specs.List.{list_any, range_with_len}
use Rattle.hgs_index.specs.Ancestor.{is_ancestor}
use Rattle.hgs_index.specs.Hex.{hex}
use Rattle.hgs_index.specs.Revision.{Parents}
use Rattle.hgs_model.specs.Phase.{phase_number}
use Rattle.hgs_revset.specs.Members.{Set, Name, Marked, All, InPhase, Not, Ancestors, Descendants, Heads, Roots, And, Or, Story}

abbrev pub is_at : Option ℕ → ℕ → Bool
is_at None rev = false
is_at (Some n) rev = n == rev

abbrev pub is_parent : List Parents → ℕ → ℕ → Bool
is_parent history p b = let parents = slice_index_or history b (None, None) in is_at parents.0 p || is_at parents.1 p

-- whether one of so many changesets passes a test
abbrev pub any_of : ℕ → (ℕ → Bool) → Bool
any_of count test = list_any test (range_with_len 0 count)

-- whether a set holds a changeset
abbrev pub holds : Story → Set → ℕ → Bool
holds s (Name n) rev = is_at (s.named n) rev
holds s (Marked n) rev = is_at (s.marked n) rev
holds s All rev = true
holds s (InPhase p) rev = is_at (slice_get s.phases rev) (phase_number p)
holds s (Not a) rev = not (holds s a rev)
holds s (Ancestors a) rev = any_of (length s.parents) (λ m. holds s a m && is_ancestor s.parents rev m)
holds s (Descendants a) rev = any_of (length s.parents) (λ m. holds s a m && is_ancestor s.parents m rev)
holds s (Heads a) rev = holds s a rev && not (any_of (length s.parents) (λ child. holds s a child && is_parent s.parents rev child))
holds s (Roots a) rev = holds s a rev && not (any_of (length s.parents) (λ p. holds s a p && is_parent s.parents p rev))
holds s (And a b) rev = holds s a rev && holds s b rev
holds s (Or a b) rev = holds s a rev || holds s b rev

-- the revision, a space, the node
abbrev pub member_line : ℕ → List ℕ → List ℕ
member_line rev node = decimal rev ++ 32 ∷ [] ++ hex node ++ 10 ∷ []

-- the lines of those among the changesets with these nodes, the first of which has this number, that pass a test
abbrev pub member_lines : (ℕ → Bool) → ℕ → List (List ℕ) → List ℕ
member_lines test rev [] = []
member_lines test rev (node ∷ nodes) = (if test rev then member_line rev node else []) ++ member_lines test (suc rev) nodes

-- a line for each member of a set, ascending
abbrev pub set_text : Story → Set → List ℕ
set_text s a = member_lines (holds s a) 0 s.nodes
