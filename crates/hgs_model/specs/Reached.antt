-- Which revisions a walk from one revision has reached.
use Rattle.std.specs.Prelude.{◌==◌, ◌||◌, ℕ, List, Bool, false, length, slice_index_or, Option, Some, None}
use Rattle.hgs_index.specs.Revision.{Parents}

-- whether this parent is there and was reached
abbrev pub reached_at : List Bool → Option ℕ → Bool
reached_at reached None = false
reached_at reached (Some rev) = slice_index_or reached rev false

-- whether the next revision is the one that the walk began with, or has a parent that was reached
abbrev pub reaches : List Bool → ℕ → Parents → Bool
reaches reached a parents = (length reached == a) || (reached_at reached parents.0 || reached_at reached parents.1)
