-- The files of a commit's tree one after another, beside the rows of the two parents' manifests.
use Rattle.std.specs.Prelude.{ℕ, List, [], ◌∷◌, ◌++◌, Bool, map, Option, Result, Ok, Err, if◌then◌else◌}
use Rattle.std.specs.Option.{option_map}
use Rattle.hgs_bytes.specs.Text.{lines}
use Rattle.hgs_files.specs.Tree.{Tree}
use Rattle.hgs_index.specs.Manifest.{Row}
use Rattle.hgs_loading.specs.Found.{and_then}
use Rattle.hgs_model.specs.declared.files.NewFile.{NewFile}
use Rattle.hgs_path.specs.declared.name.Ext.{Ext}
use Rattle.hgs_path.specs.declared.name.Ext.TheVariants.{I, D}
use Rattle.hgs_path.specs.StoreName.{listed_name}
use Rattle.hgs_load.specs.declared.answer.ReadAnswer.{ReadAnswer}
use Rattle.hgs_transaction.specs.declared.parts.Change.{Change}
use Rattle.hgs_commit.specs.Files.{OfFile, file_in, new_path, source_node}
use Rattle.hgs_commit.specs.Obstacles.{ClashBehind, Met, Obstacle, noted}
use Rattle.hgs_commit.specs.Texts.{changes_of}
use Rattle.hgs_commit.specs.Walk.{Told, before, behind_row, first_row, from_path, told_of_row}

abbrev pub paths_of : List Row → List (List ℕ)
paths_of rows = map (λ r. r.path) rows

-- what the rows that are left say of the next path, and the rows that are left behind it
abbrev pub row_at : List ℕ → List Row → Option Told
row_at path rows = option_map told_of_row (first_row path (from_path path rows))

abbrev pub rest_at : List ℕ → List Row → List Row
rest_at path rows = behind_row path (from_path path rows)

-- the paths before it that the parents have, which are removed ones
abbrev pub passed_at : List ℕ → List Row → List Row → List (List ℕ)
passed_at path first second = paths_of (before path first) ++ paths_of (before path second)

-- the lines of a new filelog's files
abbrev pub new_lines : Bool → Bool → List ℕ → List ℕ
new_lines new inline path = if new then lines (listed_name path I ∷ (if inline then [] else listed_name path D ∷ [])) else []

-- a tree up to some path: the parents' rows that are left, its rows, the changed paths, the appends to filelogs, and the lines of new ones
pub record OfTree : Type 0 where
  pub first : List Row
  pub second : List Row
  pub rows : List Row
  pub changed : List (List ℕ)
  pub growth : List Change
  pub lines : List ℕ

abbrev pub tree_on : List Row → List Row → OfTree
tree_on first second = record { first = first; second = second; rows = []; changed = []; growth = []; lines = [] }

abbrev pub with_file : OfTree → OfFile → OfTree
with_file tree x = record {
  first = rest_at x.row.path tree.first;
  second = rest_at x.row.path tree.second;
  rows = tree.rows ++ x.row ∷ [];
  changed = tree.changed ++ (passed_at x.row.path tree.first tree.second ++ new_path x.changed x.row.path);
  growth = tree.growth ++ changes_of x.growth;
  lines = tree.lines ++ new_lines x.new x.inline x.row.path;
}

abbrev pub with_files : OfTree → List OfFile → OfTree
with_files tree [] = tree
with_files tree (x ∷ xs) = with_files (with_file tree x) xs

-- the paths of files whose filelogs are new
abbrev pub new_paths : List OfFile → List (List ℕ)
new_paths [] = []
new_paths (x ∷ xs) = new_path x.new x.row.path ++ new_paths xs

-- the files, and what keeps them from being written
abbrev pub OfFiles : Type 0
OfFiles = List OfFile × List Obstacle

abbrev pub with_first : OfFile × List Obstacle → OfFiles → OfFiles
with_first x xs = (x.0 ∷ xs.0, x.1 ++ xs.1)

-- each file by the rows of its path in the parents' manifests, and by the row of its source
abbrev pub files_in : (List ℕ → Ext → Bool) → ℕ → List Row → List NewFile → List Row → List Row → Tree → Result OfFiles ReadAnswer
files_in lists link sources [] first second t = Ok ([], [])
files_in lists link sources (f ∷ files) first second t =
    and_then (file_in lists link f (source_node sources f.from) (row_at f.path first) (row_at f.path second) t) (λ x.
    and_then (files_in lists link sources files (rest_at f.path first) (rest_at f.path second) t) (λ xs. Ok (with_first x xs)))

-- a tree with what was met so far, and with files behind it
abbrev pub adding : OfTree → Met → Result OfFiles ReadAnswer → Result (OfTree × Met) ReadAnswer
adding tree m (Ok xs) = Ok (with_files tree xs.0, noted m xs.1)
adding tree m (Err e) = Err e

-- the path that is told to clash with one of those whose filelogs are new
abbrev pub ClashIn : (List ℕ → Ext → Bool) → Result OfFiles ReadAnswer → Option (List ℕ) → Option (List ℕ) → Type 0
ClashIn lists (Ok xs) old new = ClashBehind lists (new_paths xs.0) old new
ClashIn lists (Err e) old new = Unit {0}
