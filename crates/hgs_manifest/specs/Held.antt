-- The rows of a manifest, as the code holds them, and what its calls answer.
use Rattle.std.specs.Prelude.{◌≡◌, ◌==◌, ◌≤◌, ◌+◌, ℕ, Bool, true, ◌&&◌, not, nat_le, List, [], ◌∷◌, ◌++◌, length, take, drop, Option, Some, None, Result, Ok, Err, if◌then◌else◌}
use Rattle.std.specs.List.{list_any}
use Rattle.hgs_bytes.specs.Bytes.{same, is_below}
use Rattle.hgs_index.specs.Manifest.{Row, last_path}
use Rattle.hgs_index.specs.declared.kinds.Flag.{Flag}
use Rattle.hgs_index.specs.declared.texts.ManifestFault.{ManifestFault}
use Rattle.hgs_index.specs.declared.texts.ManifestFault.TheVariants.{Line, Order}
use Rattle.hgs_manifest.specs.declared.place.Place.{Place}
use Rattle.hgs_manifest.specs.declared.place.Row.{Row as CodeRow}

-- what contracts see of a row
abbrev pub view_row : CodeRow → Row
view_row r = record { path = r.path.now; node = r.node.0; flag = r.flag }

-- the row whose path stands at a place of the paths
abbrev pub row_in : List ℕ → Place → Row
row_in paths p = record { path = take p.len (drop p.from paths); node = p.node.0; flag = p.flag }

-- whether each place ends within so many bytes
abbrev pub all_within : ℕ → List Place → Bool
all_within n [] = true
all_within n (p ∷ ps) = nat_le (p.from + p.len) n && all_within n ps

-- the places lie in the paths
pub record IsHeld (paths : List ℕ) (places : List Place) : Type 0 where
  pub within : all_within (length paths) places ≡ true
  pub few : length places ≤ 33554432

-- the node and the flag of the row with this path
abbrev pub found_in : List ℕ → List Row → Option (List ℕ × Flag)
found_in path [] = None
found_in path (r ∷ rows) = if same r.path path then Some (r.node, r.flag) else found_in path rows

-- whether the byte stands nowhere in the text
abbrev pub is_without : ℕ → List ℕ → Bool
is_without byte text = not (list_any (λ b. b == byte) text)

-- whether a line can hold the path
abbrev pub is_row_path : List ℕ → Bool
is_row_path path = not (length path == 0) && is_without 0 path && is_without 10 path

-- the rows with one more at the end, or why it cannot stand there
abbrev pub with_last : List Row → Row → Result (List Row) ManifestFault
with_last rows r =
    if is_row_path r.path then (if is_below (last_path rows) r.path then Ok (rows ++ r ∷ []) else Err (Order (length rows + 1)))
    else Err (Line (length rows + 1))
