-- Which paths are tracked.
use Rattle.std.specs.Prelude.{ℕ, ◌+◌, List, Bool, ◌&&◌, ◌||◌, not, length, nat_le, ◌==◌, map, codes, if◌then◌else◌}
use Rattle.std.specs.List.{list_any}
use Rattle.hgs_bytes.specs.Bytes.{same}
use Rattle.hgs_bytes.specs.Path.{components, is_line_byte}

-- a letter from A to Z in its lower case
abbrev pub lower : ℕ → ℕ
lower b = if nat_le 65 b && nat_le b 90 then b + 32 else b

-- an empty component, `.`, `..`, and `.hg` in any letter case
abbrev pub is_forbidden : List ℕ → Bool
is_forbidden part = (length part == 0) || same part (codes ".") || same part (codes "..") || same (map lower part) (codes ".hg")

-- 1 to 1,024 bytes without NUL, CR or LF, and no forbidden component
abbrev pub is_tracked : List ℕ → Bool
is_tracked path =
    nat_le 1 (length path) && nat_le (length path) 1024 && not (list_any is_line_byte path) && not (list_any is_forbidden (components path))
