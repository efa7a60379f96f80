-- The text of branch heads.
use Rattle.std.specs.Prelude.{ℕ, Bool, List, [], ◌∷◌, ◌++◌, decimal, flat_map, length, slice_index_or}
use Rattle.std.specs.List.{range_with_len}
use Rattle.hgs_index.specs.Hex.{hex}
use Rattle.hgs_index.specs.Revision.{Parents}
use Rattle.hgs_branch.specs.Heads.{branch_at, by_branch, is_head}

abbrev pub node_text : List (List ℕ) → ℕ → List ℕ
node_text nodes rev = hex (slice_index_or nodes rev [])

-- the branch, a tab, the revision, a tab, the node
abbrev pub head_line : List (List ℕ) → List (List ℕ) → ℕ → List ℕ
head_line names nodes rev = branch_at names rev ++ 9 ∷ decimal rev ++ 9 ∷ node_text nodes rev ++ 10 ∷ []

-- the lines of the changesets that pass a test, by branch, then by revision
abbrev pub head_lines : (ℕ → Bool) → List (List ℕ) → List (List ℕ) → List ℕ
head_lines test names nodes = flat_map (head_line names nodes) (by_branch test names [] (range_with_len 0 (length names)))

-- A line for each head of each branch, by branch in the order of bytes, then by revision.
abbrev pub branches_text : List Parents → List (List ℕ) → List (List ℕ) → List ℕ
branches_text parents names nodes = head_lines (is_head parents names) names nodes
