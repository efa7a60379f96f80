-- Rows of a tree and what a search for their paths finds.
use Rattle.std.specs.Prelude.{◌≡◌, List, Some}
use Rattle.hgs_index.specs.Manifest.{Row}
use Rattle.hgs_manifest.specs.Held.{found_in}
use Rattle.hgs_model.specs.Repo.{TreeFile}

-- a search among these rows for the path of this one finds it
abbrev pub IsFound : List Row → Row → Type 0
IsFound rows r = found_in r.path rows ≡ Some (r.node, r.flag)

-- the row has the path of the file
abbrev pub HasPathOf : TreeFile → Row → Type 0
HasPathOf f row = row.path ≡ f.path
