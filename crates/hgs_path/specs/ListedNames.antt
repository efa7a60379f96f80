-- The names in the list of the filelogs' files, and the files that have them.
use Rattle.std.specs.Prelude.{ℕ, ◌+◌, ◌-◌, List, [], ◌∷◌, ◌++◌, Bool, ◌&&◌, ◌||◌, Option, Some, None, Result, Ok, Err, codes, length, take, drop, if◌then◌else◌}
use Rattle.hgs_bytes.specs.Bytes.{same, begins_with}
use Rattle.hgs_bytes.specs.Path.{components}
use Rattle.hgs_bytes.specs.Text.{lines_of}
use Rattle.hgs_path.specs.declared.name.Ext.{Ext}
use Rattle.hgs_path.specs.declared.name.Ext.TheVariants.{I, D}
use Rattle.hgs_path.specs.declared.fncache.FncacheFault.{FncacheFault}
use Rattle.hgs_path.specs.declared.fncache.FncacheFault.TheVariants.{Line}
use Rattle.hgs_path.specs.StoreName.{encoded_name, ends_in, joined, map_front, listed_name}

-- ---- the text

-- `data/` stands in front and `.i` or `.d` at the end
abbrev pub is_listed : List ℕ → Bool
is_listed name = begins_with name (codes "data/") && (ends_in name (codes ".i") || ends_in name (codes ".d"))

abbrev pub with_name : List ℕ → Result (List (List ℕ)) FncacheFault → Result (List (List ℕ)) FncacheFault
with_name name (Ok names) = Ok (name ∷ names)
with_name name (Err e) = Err e

-- the names of lines that each have their LF, or the number of the first line that is bad, where the first has this number
abbrev pub names_from : ℕ → List (List ℕ × Bool) → Result (List (List ℕ)) FncacheFault
names_from n [] = Ok []
names_from n (l ∷ ls) = if l.1 && is_listed l.0 then with_name l.0 (names_from (n + 1) ls) else Err (Line n)

-- the names that a text lists, in its order
abbrev pub names_of : List ℕ → Result (List (List ℕ)) FncacheFault
names_of text = names_from 1 (lines_of text)

-- ---- the file of a listed name

-- the path of the file that a listed name names
abbrev pub listed_file : List ℕ → List ℕ
listed_file name = codes "store/" ++ encoded_name name (if ends_in name (codes ".i") then I else D)

abbrev pub unmarked_directory : List ℕ → List ℕ
unmarked_directory d = if ends_in d (codes ".hg") then take (length d - 3) d else d

-- the directory step back
abbrev pub undone_step : List ℕ → List ℕ
undone_step name = joined (map_front unmarked_directory (components name))

-- the path and the extension, as they stand behind `data/` before the directory step
abbrev pub inner_within : List ℕ → List ℕ
inner_within name = undone_step (drop 5 name)

abbrev pub path_within : List ℕ → List ℕ
path_within name = take (length (inner_within name) - 2) (inner_within name)

abbrev pub ext_within : List ℕ → Ext
ext_within name = if ends_in (inner_within name) (codes ".i") then I else D

-- the file that has this name, if one has: a directory that ends in `.i` has no `.hg` behind it in no name of a file
abbrev pub file_named : List ℕ → Option (List ℕ × Ext)
file_named name = if same (listed_name (path_within name) (ext_within name)) name then Some (path_within name, ext_within name) else None
