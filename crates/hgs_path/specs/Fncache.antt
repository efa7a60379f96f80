-- The list of the filelogs' files.
use Rattle.std.specs.Prelude.{◌≡◌, not, ℕ, List, Bool, false, true, ◌&&◌, ◌||◌, Option, Some, None, Result, Ok, Err, Vec}
use Rattle.std.specs.declared.alloc.Global.{Global}
use Rattle.hex.specs.Hex.{IsBytes}
use Rattle.hgs_bytes.specs.Bytes.{same, among}
use Rattle.hgs_path.specs.declared.name.Ext.{Ext}
use Rattle.hgs_path.specs.declared.name.Ext.TheVariants.{I, D}
use Rattle.hgs_path.specs.declared.fncache.Fncache.{Fncache}
use Rattle.hgs_path.specs.declared.fncache.FncacheFault.{FncacheFault}
use Rattle.hgs_path.specs.declared.fncache.FncacheFault.TheVariants.{Line, Memory}
use Rattle.hgs_path.specs.ListedNames.{names_of}
use Rattle.hgs_path.specs.Owners.{has_path}
use Rattle.hgs_path.specs.StoreName.{listed_name, store_name}

-- ---- which files are listed

abbrev pub lists : List (List ℕ) → List ℕ → Ext → Bool
lists names path ext = among (listed_name path ext) names

abbrev pub as_files : Result (List (List ℕ)) FncacheFault → Result (List ℕ → Ext → Bool) FncacheFault
as_files (Ok names) = Ok (lists names)
as_files (Err e) = Err e

-- the files that a text lists
abbrev pub files_of : List ℕ → Result (List ℕ → Ext → Bool) FncacheFault
files_of text = as_files (names_of text)

abbrev pub is_memory : FncacheFault → Bool
is_memory (Line n) = false
is_memory Memory = true

-- ---- the files that a value of the code lists

abbrev pub listed_in : List (Vec ℕ Global) → List (Vec ℕ Global) → List ℕ → Ext → Bool
listed_in indexes datas path I = has_path indexes path
listed_in indexes datas path D = has_path datas path

abbrev pub listing : Fncache → List ℕ → Ext → Bool
listing f = listed_in f.indexes.keys f.datas.keys

-- these files and one more
abbrev pub with_file : (List ℕ → Ext → Bool) → List ℕ → Ext → List ℕ → Ext → Bool
with_file files path I q I = files q I || same q path
with_file files path I q D = files q D
with_file files path D q I = files q I
with_file files path D q D = files q D || same q path

abbrev pub with_named : (List ℕ → Ext → Bool) → Option (List ℕ × Ext) → List ℕ → Ext → Bool
with_named files None = files
with_named files (Some f) = with_file files f.0 f.1

-- these files and both of one more path
abbrev pub with_both : (List ℕ → Ext → Bool) → List ℕ → List ℕ → Ext → Bool
with_both files path q ext = files q ext || same q path

-- ---- clashes

-- another path, with the same name for one of its two files
abbrev pub clashes : List ℕ → List ℕ → Bool
clashes path other = not (same other path) && (same (store_name other I) (store_name path I) || same (store_name other D) (store_name path D))

-- one of its two files is listed
abbrev pub is_path_of : (List ℕ → Ext → Bool) → List ℕ → Bool
is_path_of files path = files path I || files path D

-- a listed path that clashes with this one, or none where none does
abbrev pub IsClash : (List ℕ → Ext → Bool) → List ℕ → Option (List ℕ) → Type 0
IsClash files path None = (other : List ℕ) → IsBytes other → is_path_of files other ≡ true → clashes path other ≡ false
IsClash files path (Some other) = (is_path_of files other ≡ true) × (clashes path other ≡ true)

-- the same for one of the two files
abbrev pub IsClashAt : (List ℕ → Ext → Bool) → List ℕ → Ext → Option (List ℕ) → Type 0
IsClashAt files path ext None = (other : List ℕ) → IsBytes other → is_path_of files other ≡ true → (not (same other path) && same (store_name other ext) (store_name path ext)) ≡ false
IsClashAt files path ext (Some other) = (is_path_of files other ≡ true) × (clashes path other ≡ true)
