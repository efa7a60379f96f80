-- The findings of the small files, as lists.
use Rattle.std.specs.Prelude.{ℕ, List, [], ◌∷◌, ◌++◌, Bool, true, false, not, ◌&&◌, ◌||◌, Option, Some, None, is_none, map, option_map}
use Rattle.std.specs.List.{list_any}
use Rattle.std.specs.Cmp.Lexicographic.{slice_cmp}
use Rattle.std.specs.Ordering.{nat_cmp, is_eq}
use Rattle.std.specs.Prelude.{Vec}
use Rattle.std.specs.declared.alloc.Global.{Global}
use Rattle.hgs_bytes.specs.Bytes.{same}
use Rattle.hgs_index.specs.Manifest.{Row}
use Rattle.hgs_index.specs.Node.{null_node}
use Rattle.hgs_index.specs.Revision.{Revision}
use Rattle.hgs_marks.specs.Dirstate.{Dirstate}
use Rattle.hgs_phases.specs.declared.roots.Root.{Root}
use Rattle.hgs_findings.specs.Findings.{Finding, tracks_others}
use Rattle.hgs_findings.specs.Sight.{place, row_paths, tracked_rows}
use Rattle.hgs_judge.specs.declared.changesets.Tree.{Tree}
use Rattle.hgs_judge.specs.Report.{each_from, one_if}
use Rattle.hgs_judge.specs.Trees.{rows_in_tree}

-- one of a file
abbrev pub file_if : Bool → List ℕ → ℕ → List Finding
file_if false path kind = []
file_if true path kind = record { path = path; rev = None; kind = kind } ∷ []

abbrev pub root_values : List Root → List (List ℕ)
root_values roots = map (λ (r : Root). r.node.0) roots

-- a line whose node none of these revisions has
abbrev pub of_line : List Revision → List ℕ → ℕ → ℕ → List ℕ → List Finding
of_line log path kind line node = one_if (is_none (place log node)) path line kind

-- a text that can't be read, or those of its lines, of which the first has the number 1
abbrev pub of_lines : List Revision → List ℕ → ℕ → Option (List (List ℕ)) → List Finding
of_lines log path kind None = file_if true path 4
of_lines log path kind (Some nodes) = each_from (of_line log path kind) 1 nodes

-- neither the null node nor one of these revisions
abbrev pub is_unknown : List Revision → List ℕ → Bool
is_unknown log node = not (same node null_node) && is_none (place log node)

-- the paths that can be read of a tree
abbrev pub tracked_in : List (Option (List Row)) → Tree → Option (List (List ℕ))
tracked_in trees tree = option_map row_paths (option_map tracked_rows (rows_in_tree trees tree))

-- a text of working parents that can't be read, or its unknown parents and its other paths than those wanted
abbrev pub of_dirstate : List Revision → List ℕ → (List ℕ → Option (List (List ℕ))) → Option Dirstate → List Finding
of_dirstate log path wanted None = file_if true path 4
of_dirstate log path wanted (Some d) = file_if (is_unknown log d.p1 || is_unknown log d.p2) path 15 ++ file_if (tracks_others d.paths (wanted d.p1)) path 16

-- a set has the path
abbrev pub has_key : List (Vec ℕ Global) → List ℕ → Bool
has_key keys path = list_any (λ k. is_eq (slice_cmp nat_cmp path k.items)) keys

-- a changeset whose list of changed files is wrong
abbrev pub of_mark : List ℕ → ℕ → Bool → List Finding
of_mark changelog rev mark = one_if mark changelog rev 9
