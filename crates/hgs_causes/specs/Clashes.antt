-- Which name clashes with one of a commit.
use Rattle.std.specs.Prelude.{◌≡◌, ◌⊎◌, ℕ, List, true, Ok}
use Rattle.hgs_bytes.specs.Bytes.{among}
use Rattle.hgs_files.specs.Tree.{Tree, bytes_at}
use Rattle.hgs_model.specs.Valid.{new_paths}
use Rattle.hgs_model.specs.declared.command.NewChange.{NewChange}
use Rattle.hgs_path.specs.declared.name.Ext.{Ext}
use Rattle.hgs_path.specs.Fncache.{clashes, lists}
use Rattle.hgs_path.specs.ListedNames.{names_of}
use Rattle.hgs_stands.specs.Places.{fncache_path}

-- the list of filelogs has the name of a file of this path's
abbrev pub IsListed : Tree → List ℕ → Type 0
IsListed t path = (names : List (List ℕ)) × (ext : Ext) × (names_of (bytes_at t fncache_path) ≡ Ok names) × (lists names path ext ≡ true)

-- A file of this path's has the name of one of another path, which the commit has; and this path is listed, or the commit has it too.
pub record IsClashOf (t : Tree) (n : NewChange) (other : List ℕ) : Type 0 where
  pub path : List ℕ
  pub is_new : among path (new_paths n.files) ≡ true
  pub same_name : clashes path other ≡ true
  pub known : IsListed t other ⊎ (among other (new_paths n.files) ≡ true)
