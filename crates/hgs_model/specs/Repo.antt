-- A repository, without offsets, nodes and encoded names.
use Rattle.std.specs.Prelude.{ℕ, zero, suc, List, [], ◌∷◌, ◌++◌, map, Option, Some, None, ℤ}
use Rattle.hgs_index.specs.declared.kinds.Flag.{Flag}
use Rattle.hgs_index.specs.Revision.{Parents}

-- a file of a changeset: its text is the prefix and the body
pub record TreeFile : Type 0 where
  pub path : List ℕ
  pub flag : Flag
  pub prefix : List ℕ
  pub body : List ℕ

-- a changeset; its tree is a map from paths, as a list whose paths ascend
pub record Changeset : Type 0 where
  pub parents : Parents
  pub tree : List TreeFile
  pub user : List ℕ
  pub seconds : ℤ
  pub offset : ℤ
  pub extras : List ℕ
  pub description : List ℕ

pub record Bookmark : Type 0 where
  pub name : List ℕ
  pub rev : ℕ

-- the changesets, their phases (0 public, 1 draft, 2 secret), the bookmarks by ascending name, and the working parents
pub record Repo : Type 0 where
  pub changesets : List Changeset
  pub phases : List ℕ
  pub bookmarks : List Bookmark
  pub working : Parents

abbrev pub empty_repo : Repo
empty_repo = record { changesets = []; phases = []; bookmarks = []; working = (None, None) }

abbrev pub file_text : TreeFile → List ℕ
file_text f = f.prefix ++ f.body

abbrev pub tree_paths : List TreeFile → List (List ℕ)
tree_paths tree = map (λ f. f.path) tree

-- the tree of a changeset
abbrev pub tree_at : List Changeset → ℕ → List TreeFile
tree_at [] rev = []
tree_at (c ∷ changesets) zero = c.tree
tree_at (c ∷ changesets) (suc rev) = tree_at changesets rev

abbrev pub all_parents : List Changeset → List Parents
all_parents changesets = map (λ c. c.parents) changesets

-- the paths of a changeset's tree, none where there is no changeset
abbrev pub paths_at : List Changeset → Option ℕ → List (List ℕ)
paths_at changesets None = []
paths_at changesets (Some rev) = tree_paths (tree_at changesets rev)

-- the tracked paths: those of the first working parent's tree
abbrev pub tracked_paths : Repo → List (List ℕ)
tracked_paths r = paths_at r.changesets r.working.0
