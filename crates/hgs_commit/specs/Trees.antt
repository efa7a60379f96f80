-- The whole tree of a commit.
use Rattle.std.specs.Prelude.{ℕ, List, [], ◌∷◌, ◌++◌, Bool, not, map, filter, flat_map, Result, Ok}
use Rattle.hgs_bytes.specs.Bytes.{among}
use Rattle.hgs_files.specs.Tree.{Tree}
use Rattle.hgs_index.specs.Manifest.{Row}
use Rattle.hgs_loading.specs.Found.{and_then}
use Rattle.hgs_manifest.specs.Held.{found_in}
use Rattle.hgs_model.specs.History.{in_order}
use Rattle.hgs_model.specs.declared.files.NewFile.{NewFile}
use Rattle.hgs_path.specs.declared.name.Ext.{Ext}
use Rattle.hgs_load.specs.declared.answer.ReadAnswer.{ReadAnswer}
use Rattle.hgs_transaction.specs.declared.parts.Change.{Change}
use Rattle.hgs_commit.specs.Files.{OfFile, file_in, source_node}
use Rattle.hgs_commit.specs.Texts.{changes_of}
use Rattle.hgs_commit.specs.Tree.{OfFiles, new_lines, paths_of, with_first}

-- each file by the rows of its path in the manifests of the two parents, and by that of its source in the first
abbrev pub all_files_in : (List ℕ → Ext → Bool) → ℕ → List Row → List Row → List NewFile → Tree → Result OfFiles ReadAnswer
all_files_in lists link first second [] t = Ok ([], [])
all_files_in lists link first second (f ∷ files) t =
    and_then (file_in lists link f (source_node first f.from) (found_in f.path first) (found_in f.path second) t) (λ x.
    and_then (all_files_in lists link first second files t) (λ xs. Ok (with_first x xs)))

-- a whole tree: its rows, the changed paths in order, the appends to filelogs, and the lines of new ones
pub record OfGrown : Type 0 where
  pub rows : List Row
  pub changed : List (List ℕ)
  pub growth : List Change
  pub lines : List ℕ

abbrev pub file_paths : List OfFile → List (List ℕ)
file_paths xs = map (λ x. x.row.path) xs

-- the paths of the parents' trees that the tree lacks
abbrev pub removed_paths : List OfFile → List Row → List Row → List (List ℕ)
removed_paths xs first second = filter (λ path. not (among path (file_paths xs))) (paths_of first ++ paths_of second)

abbrev pub grown_of : List Row → List Row → List OfFile → OfGrown
grown_of first second xs = record {
  rows = map (λ x. x.row) xs;
  changed = in_order (file_paths (filter (λ x. x.changed) xs) ++ removed_paths xs first second);
  growth = flat_map (λ x. changes_of x.growth) xs;
  lines = flat_map (λ x. new_lines x.new x.inline x.row.path) xs;
}
