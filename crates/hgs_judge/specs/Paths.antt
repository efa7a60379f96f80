-- The paths of trees, in order.
use Rattle.std.specs.Prelude.{◌≡◌, ℕ, true, List, [], ◌∷◌, Option, unwrap_or, option_map}
use Rattle.hgs_bytes.specs.Bytes.{among}
use Rattle.hgs_index.specs.Manifest.{Row}
use Rattle.hgs_model.specs.History.{inserted}
use Rattle.hgs_findings.specs.Sight.{row_paths, tracked_rows}
use Rattle.hgs_judge.specs.declared.changesets.Tree.{Tree}
use Rattle.hgs_judge.specs.Trees.{rows_in_tree}

-- a list in order with these paths in their places, once
abbrev pub entered : List (List ℕ) → List (List ℕ) → List (List ℕ)
entered [] keys = keys
entered (path ∷ paths) keys = inserted path (entered paths keys)

-- each of these paths stands in such a list
abbrev pub AreEntered : List (List ℕ) → List (List ℕ) → Type 0
AreEntered paths keys = (path : List ℕ) → among path paths ≡ true → inserted path keys ≡ keys

-- the paths of a tree that may be tracked, none where it can't be read
abbrev pub paths_in_tree : List (Option (List Row)) → Tree → List (List ℕ)
paths_in_tree trees tree = row_paths (unwrap_or (option_map tracked_rows (rows_in_tree trees tree)) [])
