-- That the list of filelogs has only names of paths' files, and no second one of a used path's file.
use Rattle.std.specs.Prelude.{◌≡◌, ◌⊎◌, ℕ, List, true}
use Rattle.std.specs.List.{AllByRecursion}
use Rattle.hex.specs.Hex.{IsBytes}
use Rattle.hgs_bytes.specs.Text.{Line, lines_of}
use Rattle.hgs_files.specs.Tree.{Tree, bytes_at}
use Rattle.hgs_model.specs.History.{uses}
use Rattle.hgs_model.specs.Repo.{Changeset, Repo}
use Rattle.hgs_path.specs.declared.name.Ext.{Ext}
use Rattle.hgs_path.specs.ListedNames.{listed_file}
use Rattle.hgs_path.specs.StoreName.{listed_name, store_name}
use Rattle.hgs_ops.specs.Operations.{strays}
use Rattle.hgs_stands.specs.Open.{IsOpen}
use Rattle.hgs_stands.specs.Places.{fncache_path}
use Rattle.hgs_stands.specs.Stands.{Stands}

-- the name of a file of a filelog, whose path is bytes
abbrev pub IsPathName : List ℕ → Type 0
IsPathName name = (path : List ℕ) × (ext : Ext) × IsBytes path × (listed_name path ext ≡ name)

-- It is the name of each file of a used path that it names. It can be another's only where SHA-1 gives one digest of both.
abbrev pub IsOwnName : List Changeset → List ℕ → Type 0
IsOwnName changesets name = (path : List ℕ) (ext : Ext) → uses changesets path ≡ true → listed_file name ≡ store_name path ext → listed_name path ext ≡ name

abbrev pub IsKeptName : List Changeset → List ℕ → Type 0
IsKeptName changesets name = IsPathName name × IsOwnName changesets name

-- Of a line without its LF nothing is said.
abbrev pub IsKeptLine : List Changeset → Line → Type 0
IsKeptLine changesets l = l.1 ≡ true → IsKeptName changesets l.0

abbrev pub AreKeptLines : List Changeset → List ℕ → Type 0
AreKeptLines changesets text = AllByRecursion (IsKeptLine changesets) (lines_of text)

-- Each whole line of the list of filelogs is such a name.
pub record ListsPaths (t : Tree) (r : Repo) : Type 0 where
  pub lines : AreKeptLines r.changesets (bytes_at t fncache_path)

-- So it is with the repository that the tree stands for or is open for, if there is one.
abbrev pub ListsOnlyPaths : Tree → Type 0
ListsOnlyPaths t = (r : Repo) → Stands t r ⊎ IsOpen strays t r → ListsPaths t r
