-- Which filelogs are inline.
use Rattle.std.specs.Prelude.{◌≡◌, ◌&&◌, ◌||◌, ℕ, List, true, Vec}
use Rattle.std.specs.declared.alloc.Global.{Global}
use Rattle.hgs_bytes.specs.Bytes.{among, same}
use Rattle.hgs_files.specs.Tree.{Tree, bytes_at}
use Rattle.hgs_index.specs.Inline.{is_inline}
use Rattle.hgs_path.specs.declared.name.Ext.TheVariants.{I}
use Rattle.hgs_path.specs.StoreName.{store_name}
use Rattle.hgs_report.specs.Lines.{has_key}

-- the paths of the set and no others of these have inline filelogs in a tree
abbrev pub HaveInline : List (List ℕ) → List (Vec ℕ Global) → Tree → Type 0
HaveInline paths keys t = (path : List ℕ) → among path paths ≡ true → has_key keys path ≡ is_inline (bytes_at t (store_name path I))

-- one path was entered where its filelog is inline
abbrev pub EntersInline : List ℕ → List (Vec ℕ Global) → List (Vec ℕ Global) → Tree → Type 0
EntersInline path old new t = (name : List ℕ) → has_key new name ≡ ((is_inline (bytes_at t (store_name path I)) && same name path) || has_key old name)
