-- The name of a filelog's file in the store.
use Rattle.std.specs.Prelude.{ℕ, ◌+◌, ◌-◌, List, [], ◌∷◌, ◌++◌, Bool, ◌&&◌, ◌||◌, ◌==◌, nat_le, nat_lt, length, take, drop, map, flat_map, slice_index, Option, Some, None, codes, if◌then◌else◌}
use Rattle.std.specs.List.{list_any, join_with_byte, sum_by}
use Rattle.hex.specs.Hex.{encode_lower}
use Rattle.sha1.specs.Sha1.{sha1}
use Rattle.hgs_bytes.specs.Bytes.{same, begins_with}
use Rattle.hgs_bytes.specs.Path.{components}
use Rattle.hgs_bytes.specs.Text.{split}
use Rattle.hgs_index.specs.TrackedPath.{lower}
use Rattle.hgs_path.specs.declared.name.Ext.{Ext}
use Rattle.hgs_path.specs.declared.name.Ext.TheVariants.{I, D}
use Rattle.hgs_path.specs.declared.spell.Form.{Form}
use Rattle.hgs_path.specs.declared.spell.Form.TheVariants.{Plain, Hashed}

abbrev pub ext_text : Ext → List ℕ
ext_text I = codes ".i"
ext_text D = codes ".d"

-- `data/`, the path and the extension
abbrev pub whole_path : List ℕ → Ext → List ℕ
whole_path path ext = codes "data/" ++ path ++ ext_text ext

-- the parts with a slash between each two
abbrev pub joined : List (List ℕ) → List ℕ
joined parts = join_with_byte 47 parts

-- ---- the directory step

abbrev pub ends_in : List ℕ → List ℕ → Bool
ends_in text end = same (drop (length text - length end) text) end

-- a directory that could be taken for a filelog's file gets `.hg`
abbrev pub marked_directory : List ℕ → List ℕ
marked_directory d = if ends_in d (codes ".hg") || ends_in d (codes ".i") || ends_in d (codes ".d") then d ++ codes ".hg" else d

-- f of each part but the last
abbrev pub map_front : (List ℕ → List ℕ) → List (List ℕ) → List (List ℕ)
map_front f [] = []
map_front f (last ∷ []) = last ∷ []
map_front f (x ∷ y ∷ parts) = f x ∷ map_front f (y ∷ parts)

abbrev pub directory_step : List ℕ → List ℕ
directory_step name = joined (map_front marked_directory (components name))

-- the name of a file in `fncache`
abbrev pub listed_name : List ℕ → Ext → List ℕ
listed_name path ext = directory_step (whole_path path ext)

-- ---- the character step

-- `~` and two hex digits
abbrev pub escaped : ℕ → List ℕ
escaped b = 126 ∷ encode_lower (b ∷ [])

-- 0 to 31, 126 to 255, and `\ : * ? " < > |`
abbrev pub is_escaped : ℕ → Bool
is_escaped b = nat_lt b 32 || nat_le 126 b || list_any (λ x. x == b) (codes "\\:*?\"<>|")

abbrev pub is_upper : ℕ → Bool
is_upper b = nat_le 65 b && nat_le b 90

-- in the plain form `_` stands before a letter that was upper case, and before itself
abbrev pub unescaped : Form → ℕ → List ℕ
unescaped Plain b = if is_upper b || b == 95 then 95 ∷ lower b ∷ [] else b ∷ []
unescaped Hashed b = lower b ∷ []

-- a byte as it is spelled
abbrev pub spelled : Form → ℕ → List ℕ
spelled form b = if is_escaped b then escaped b else unescaped form b

-- ---- the component step

abbrev pub is_dot_or_space : ℕ → Bool
is_dot_or_space b = b == 46 || b == 32

-- what stands before the first dot, or the whole
abbrev pub before_dot : List ℕ → Option (List ℕ × List ℕ) → List ℕ
before_dot part None = part
before_dot part (Some p) = p.0

-- `com` or `lpt` and a digit from 1 to 9
abbrev pub is_port : List ℕ → Bool
is_port stem = length stem == 4 && (begins_with stem (codes "com") || begins_with stem (codes "lpt")) && nat_le 49 (slice_index stem 3) && nat_le (slice_index stem 3) 57

-- the names of devices, which Windows keeps for itself
abbrev pub is_device : List ℕ → Bool
is_device stem = same stem (codes "aux") || same stem (codes "con") || same stem (codes "prn") || same stem (codes "nul") || is_port stem

-- the byte at this place escaped
abbrev pub escaped_at : List ℕ → Option ℕ → List ℕ
escaped_at part None = part
escaped_at part (Some place) = take place part ++ escaped (slice_index part place) ++ drop (place + 1) part

-- a leading dot or space, else the third letter of a device's name
abbrev pub front_place : List ℕ → Option ℕ
front_place part =
    if is_dot_or_space (slice_index part 0) then Some 0
    else if is_device (before_dot part (split 46 part)) then Some 2
    else None

-- a last dot or space
abbrev pub end_place : List ℕ → Option ℕ
end_place part = if is_dot_or_space (slice_index part (length part - 1)) then Some (length part - 1) else None

abbrev pub with_front : List ℕ → List ℕ
with_front part = escaped_at part (front_place part)

abbrev pub with_end : List ℕ → List ℕ
with_end part = escaped_at part (end_place part)

-- a component: its characters, then its front, then its end
abbrev pub spelled_component : Form → List ℕ → List ℕ
spelled_component form part = with_end (with_front (flat_map (spelled form) part))

abbrev pub spelled_name : Form → List ℕ → List ℕ
spelled_name form name = joined (map (spelled_component form) (components name))

-- ---- the hashed form

-- a directory cut to 8 bytes, whose last one is `_` in place of a dot or a space
abbrev pub short_directory : List ℕ → List ℕ
short_directory d = let cut = take 8 d in if is_dot_or_space (slice_index cut (length cut - 1)) then take (length cut - 1) cut ++ 95 ∷ [] else cut

-- The directories from the left that have at most 68 bytes together, slashes between them counted; `used` bytes are
-- taken by those before, each with its slash.
abbrev pub fitting : ℕ → List (List ℕ) → List (List ℕ)
fitting used [] = []
fitting used (d ∷ ds) = if nat_le (used + length d) 68 then d ∷ fitting (used + length d + 1) ds else []

-- all parts but the last, and the last
abbrev pub directories : List (List ℕ) → List (List ℕ)
directories [] = []
directories (last ∷ []) = []
directories (x ∷ y ∷ parts) = x ∷ directories (y ∷ parts)

abbrev pub last_part : List (List ℕ) → List ℕ
last_part [] = []
last_part (last ∷ []) = last
last_part (x ∷ y ∷ parts) = last_part (y ∷ parts)

-- the short directories that fit, each with its slash
abbrev pub short_directories : List (List ℕ) → List ℕ
short_directories parts = flat_map (λ d. d ++ 47 ∷ []) (fitting 0 (map short_directory (directories parts)))

-- `dh/`, the short directories, as much of the last part as keeps the whole at 120 bytes, 40 digits, and the extension
abbrev pub hashed_from : List ℕ → List ℕ → List ℕ → Ext → List ℕ
hashed_from front last name ext = codes "dh/" ++ front ++ take (75 - length front) last ++ encode_lower (sha1 name) ++ ext_text ext

abbrev pub hashed_name : List ℕ → Ext → List ℕ
hashed_name name ext =
    let parts = components (spelled_name Hashed (drop 5 name)) in hashed_from (short_directories parts) (last_part parts) name ext

-- ---- the name

-- A byte of a path makes at most so many bytes of a plain name. With a dot is counted the `.hg` that its directory can
-- get, and with a slash the escape of a device's name behind it.
abbrev pub most_spelled : ℕ → ℕ
most_spelled b = if b == 46 then 8 else if b == 47 || b == 32 || is_escaped b then 3 else if is_upper b || b == 95 then 2 else 1

-- a path whose two names are surely plain: `data/`, the extension and a device's name in front make at most 19 bytes more
abbrev pub is_short : List ℕ → Bool
is_short path = nat_le (sum_by most_spelled path) 101

-- the plain form has at most 120 bytes
abbrev pub is_plain : List ℕ → Bool
is_plain name = nat_le (length (spelled_name Plain name)) 120

-- what a listed name is called in the store: its plain form, or where that is too long its hashed one
abbrev pub encoded_name : List ℕ → Ext → List ℕ
encoded_name name ext = if is_plain name then spelled_name Plain name else hashed_name name ext

-- the name of a filelog's file
abbrev pub store_name : List ℕ → Ext → List ℕ
store_name path ext = codes "store/" ++ encoded_name (listed_name path ext) ext
