-- The heads of branches.
use Rattle.std.specs.Prelude.{◌≡◌, ◌<◌, ℕ, Bool, false, not, ◌&&◌, ◌==◌, List, [], ◌∷◌, length, slice_get, slice_index_or, if◌then◌else◌}
use Rattle.std.specs.List.{list_any, range_with_len}
use Rattle.hgs_bytes.specs.Bytes.{same, is_below}
use Rattle.hgs_index.specs.Ancestor.{IsAncestor, is_ancestor}
use Rattle.hgs_index.specs.Revision.{Parents}

-- the branch of a changeset, where each has the one at its place
abbrev pub branch_at : List (List ℕ) → ℕ → List ℕ
branch_at names rev = slice_index_or names rev []

-- A head of its branch: no other changeset of that branch has it as an ancestor, through whatever branches.
pub record IsHead {A : Type 0} (parents : List Parents) (branches : List A) (rev : ℕ) : Type 0 where
  pub there : rev < length branches
  pub last : (other : ℕ) → other < length branches → slice_get branches other ≡ slice_get branches rev → IsAncestor parents rev other → other ≡ rev

-- the same as a test
abbrev pub goes_on : List Parents → List (List ℕ) → ℕ → ℕ → Bool
goes_on parents names rev other = same (branch_at names other) (branch_at names rev) && is_ancestor parents rev other && not (other == rev)

abbrev pub is_head : List Parents → List (List ℕ) → ℕ → Bool
is_head parents names rev = not (list_any (goes_on parents names rev) (range_with_len 0 (length names)))

-- whether the branch of one changeset comes before that of another
abbrev pub comes_before : List (List ℕ) → ℕ → ℕ → Bool
comes_before names a b = is_below (branch_at names a) (branch_at names b)

-- a list of changesets by branch with one more, which stands behind those of its own branch
abbrev pub with_head : List (List ℕ) → ℕ → List ℕ → List ℕ
with_head names rev [] = rev ∷ []
with_head names rev (head ∷ heads) = if is_below (branch_at names rev) (branch_at names head) then rev ∷ head ∷ heads else head ∷ with_head names rev heads

-- none comes by its branch before one that stands ahead of it
abbrev pub StandByBranch : List (List ℕ) → List ℕ → Type 0
StandByBranch names [] = Unit {0}
StandByBranch names (head ∷ heads) = ((j : ℕ) → j < length heads → is_below (branch_at names (slice_index_or heads j 0)) (branch_at names head) ≡ false) × StandByBranch names heads

-- those of the changesets that pass a test, by branch in the order of bytes, then in their own order
abbrev pub by_branch : (ℕ → Bool) → List (List ℕ) → List ℕ → List ℕ → List ℕ
by_branch test names heads [] = heads
by_branch test names heads (rev ∷ revs) = by_branch test names (if test rev then with_head names rev heads else heads) revs

-- The heads of all branches, by branch, then by revision.
abbrev pub branch_heads : List Parents → List (List ℕ) → List ℕ
branch_heads parents names = by_branch (is_head parents names) names [] (range_with_len 0 (length names))
