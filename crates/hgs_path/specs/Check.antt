-- Why a path is not tracked.
use Rattle.std.specs.Prelude.{ℕ, ◌+◌, List, [], ◌∷◌, ◌==◌, nat_lt, length, Option, Some, None, Result, Ok, Err, position, if◌then◌else◌}
use Rattle.hgs_bytes.specs.Path.{components, is_line_byte}
use Rattle.hgs_index.specs.TrackedPath.{is_forbidden}
use Rattle.hgs_path.specs.declared.check.PathFault.{PathFault}
use Rattle.hgs_path.specs.declared.check.PathFault.TheVariants.{Empty, Long, Byte, Component}

-- where the first forbidden component starts, the first of these starting at this place
abbrev pub forbidden_from : ℕ → List (List ℕ) → Option ℕ
forbidden_from at [] = None
forbidden_from at (part ∷ parts) = if is_forbidden part then Some at else forbidden_from (at + length part + 1) parts

-- the first line byte, else the first forbidden component
abbrev pub by_places : Option ℕ → Option ℕ → Result Unit PathFault
by_places (Some at) component = Err (Byte at)
by_places None (Some at) = Err (Component at)
by_places None None = Ok tt

-- the first fault of a path
abbrev pub checked : List ℕ → Result Unit PathFault
checked path =
    if length path == 0 then Err Empty
    else if nat_lt 1024 (length path) then Err Long
    else by_places (position is_line_byte path) (forbidden_from 0 (components path))
