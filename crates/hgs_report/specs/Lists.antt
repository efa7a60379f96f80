-- The changesets whose lists of changed files have a path that no tree has.
use Rattle.std.specs.Prelude.{◌≡◌, ℕ, List, Bool, true, false, not, ◌&&◌, length, Option, Some, None, is_some, slice_get}
use Rattle.std.specs.Cmp.Lexicographic.{slice_cmp}
use Rattle.std.specs.List.{list_all, list_any}
use Rattle.std.specs.Ordering.{nat_cmp, is_eq}
use Rattle.hgs_files.specs.Tree.{Tree as Files}
use Rattle.hgs_index.specs.ChangeText.{Change}
use Rattle.hgs_index.specs.Manifest.{Row}
use Rattle.hgs_findings.specs.Reading.{sight_of}
use Rattle.hgs_findings.specs.Regular.{is_used}
use Rattle.hgs_findings.specs.Sight.{Seen, seen, is_wrongly_listed}
use Rattle.hgs_judge.specs.declared.changesets.Changeset.{Changeset}
use Rattle.hgs_judge.specs.declared.changesets.Tree.{Tree}
use Rattle.hgs_judge.specs.Trees.{rows_in_tree}

abbrev pub is_read : List (Option (List Row)) → Tree → Bool
is_read trees tree = is_some (rows_in_tree trees tree)

abbrev pub is_read_at : List (Option (List Row)) → Option Changeset → Bool
is_read_at trees None = false
is_read_at trees (Some c) = is_read trees c.tree

-- the tree of a parent can be read, or there is no parent
abbrev pub parent_is_read : List Changeset → List (Option (List Row)) → Option ℕ → Bool
parent_is_read changesets trees None = true
parent_is_read changesets trees (Some rev) = is_read_at trees (slice_get changesets rev)

-- the paths, in order, have this one
abbrev pub has_path : List (List ℕ) → List ℕ → Bool
has_path paths path = list_any (λ k. is_eq (slice_cmp nat_cmp path k)) paths

abbrev pub has_unused : List (List ℕ) → Option (List (List ℕ)) → Bool
has_unused used None = false
has_unused used (Some files) = not (list_all (has_path used) files)

-- its tree and those of its parents can be read, and its list has a path that no tree has
abbrev pub lists_unused : List Changeset → List (Option (List Row)) → List (List ℕ) → Changeset → Bool
lists_unused changesets trees used c = is_read trees c.tree && parent_is_read changesets trees c.parents.0 && parent_is_read changesets trees c.parents.1 && has_unused used c.files

-- The list of changed files of the changeset at this place is wrong at a path.
pub record ListsWrongly (t : Files) (rev : ℕ) : Type 0 where
  pub c : Seen
  pub v : Change
  pub path : List ℕ
  pub at : slice_get (seen (sight_of t)) rev ≡ Some c
  pub change : c.change ≡ Some v
  pub wrong : is_wrongly_listed (sight_of t) path (seen (sight_of t)) c v ≡ true

-- For each changeset, whether its list of changed files is wrong.
pub record AreLists (t : Files) (marks : List Bool) : Type 0 where
  pub count : length marks ≡ length (seen (sight_of t))
  pub are : (rev : ℕ) → slice_get marks rev ≡ Some true → ListsWrongly t rev
  pub all : (rev : ℕ) → ListsWrongly t rev → slice_get marks rev ≡ Some true

-- The same of the paths that no tree has, and perhaps of others.
pub record AreUnusedLists (t : Files) (marks : List Bool) : Type 0 where
  pub count : length marks ≡ length (seen (sight_of t))
  pub are : (rev : ℕ) → slice_get marks rev ≡ Some true → ListsWrongly t rev
  pub all : (rev : ℕ) (w : ListsWrongly t rev) → is_used (sight_of t) w.path ≡ false → slice_get marks rev ≡ Some true
