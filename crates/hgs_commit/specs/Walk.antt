-- The rows of a parent's manifest, passed in the order of their paths.
use Rattle.std.specs.Prelude.{ℕ, List, [], ◌∷◌, Option, Some, None, if◌then◌else◌}
use Rattle.hgs_bytes.specs.Bytes.{same, is_below}
use Rattle.hgs_index.specs.declared.kinds.Flag.{Flag}
use Rattle.hgs_index.specs.declared.node.Node.{Node}
use Rattle.hgs_index.specs.Manifest.{Row}

-- the rows whose paths come before this one, and those from it on
abbrev pub before : List ℕ → List Row → List Row
before path [] = []
before path (r ∷ rows) = if is_below r.path path then r ∷ before path rows else []

abbrev pub from_path : List ℕ → List Row → List Row
from_path path [] = []
from_path path (r ∷ rows) = if is_below r.path path then from_path path rows else r ∷ rows

-- the first row, where it has this path, and the rows behind it
abbrev pub first_row : List ℕ → List Row → Option Row
first_row path [] = None
first_row path (r ∷ rows) = if same r.path path then Some r else None

abbrev pub behind_row : List ℕ → List Row → List Row
behind_row path [] = []
behind_row path (r ∷ rows) = if same r.path path then rows else r ∷ rows

-- what is told of a row beside its path
abbrev pub Told : Type 0
Told = List ℕ × Flag

abbrev pub told_of_row : Row → Told
told_of_row r = (r.node, r.flag)

abbrev pub told_of_found : Node × Flag → Told
told_of_found found = (found.0.0, found.1)
