-- What is found of the small files.
use Rattle.std.specs.Prelude.{◌≡◌, ◌||◌, ℕ, suc, List, true, false, Option, Some, None, Ok, is_some, slice_get}
use Rattle.hgs_files.specs.Tree.{Tree, bytes_at}
use Rattle.hgs_marks.specs.Bookmarks.{Mark, mark_lines}
use Rattle.hgs_marks.specs.Dirstate.{Dirstate, read_dirstate}
use Rattle.hgs_phases.specs.declared.roots.Root.{Root}
use Rattle.hgs_phases.specs.Roots.{read_roots}
use Rattle.hgs_stands.specs.Places.{bookmarks_path, dirstate_path, roots_path}
use Rattle.hgs_findings.specs.Findings.{roots_in, mark_lines_in, dirstate_in, known, is_unknown_parent, paths_at_node, tracks_others}
use Rattle.hgs_findings.specs.Reading.{sight_of}
use Rattle.hgs_findings.specs.Sight.{value}

pub data IsOfRoots (t : Tree) : List ℕ → Option ℕ → ℕ → Type 0 where
  bad_roots : is_some (value (read_roots (bytes_at t roots_path))) ≡ false → IsOfRoots t roots_path None 4
  unknown_root : (n : ℕ) (root : Root) → slice_get (roots_in t) n ≡ Some root → is_some (known (sight_of t) root.node.0) ≡ false → IsOfRoots t roots_path (Some (suc n)) 13

pub data IsOfBookmarks (t : Tree) : List ℕ → Option ℕ → ℕ → Type 0 where
  bad_bookmarks : is_some (value (mark_lines (bytes_at t bookmarks_path))) ≡ false → IsOfBookmarks t bookmarks_path None 4
  unknown_mark : (n : ℕ) (mark : Mark) → slice_get (mark_lines_in t) n ≡ Some mark → is_some (known (sight_of t) mark.node) ≡ false → IsOfBookmarks t bookmarks_path (Some (suc n)) 14

pub data IsOfDirstate (t : Tree) : List ℕ → Option ℕ → ℕ → Type 0 where
  bad_dirstate : is_some (value (read_dirstate (bytes_at t dirstate_path))) ≡ false → IsOfDirstate t dirstate_path None 4
  unknown_parent : (is_unknown_parent (sight_of t) (dirstate_in t).p1 || is_unknown_parent (sight_of t) (dirstate_in t).p2) ≡ true → IsOfDirstate t dirstate_path None 15
  other_paths : (d : Dirstate) → read_dirstate (bytes_at t dirstate_path) ≡ Ok d → tracks_others d.paths (paths_at_node (sight_of t) d.p1) ≡ true → IsOfDirstate t dirstate_path None 16
