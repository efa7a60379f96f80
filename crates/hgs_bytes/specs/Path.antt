-- Paths as parts between slashes.
use Rattle.std.specs.Prelude.{ℕ, List, Bool, ◌==◌, ◌||◌}
use Rattle.std.specs.List.{slice_split}

-- the parts between the slashes
abbrev pub components : List ℕ → List (List ℕ)
components path = slice_split (λ b. b == 47) path

-- NUL, LF and CR stand in no name
abbrev pub is_line_byte : ℕ → Bool
is_line_byte b = b == 0 || b == 10 || b == 13
