-- The findings of the names of filelogs' files, as lists.
use Rattle.std.specs.Prelude.{◌≡◌, ◌⊎◌, ◌==◌, ◌&&◌, ℕ, List, [], ◌∷◌, ◌++◌, Bool, true, false, not, length, Option, Some, None, Ok, Vec, is_some, map, filter}
use Rattle.std.specs.BTreeSet.{BTreeSet}
use Rattle.std.specs.List.{list_any}
use Rattle.std.specs.declared.alloc.Global.{Global}
use Rattle.hgs_bytes.specs.Bytes.{same, among}
use Rattle.hgs_files.specs.Tree.{Tree, bytes_at}
use Rattle.hgs_index.specs.Inline.{is_inline}
use Rattle.hgs_path.specs.declared.name.Ext.{Ext}
use Rattle.hgs_path.specs.declared.name.Ext.TheVariants.{I, D}
use Rattle.hgs_path.specs.Fncache.{lists}
use Rattle.hgs_path.specs.ListedNames.{listed_file, names_of}
use Rattle.hgs_path.specs.StoreName.{listed_name, store_name}
use Rattle.hgs_stands.specs.Places.{fncache_path}
use Rattle.hgs_stands.specs.Stands.{has_file}
use Rattle.hgs_findings.specs.Findings.{Finding, is_name_used, names_in}
use Rattle.hgs_findings.specs.Reading.{sight_of}
use Rattle.hgs_findings.specs.Regular.{is_used}
use Rattle.hgs_findings.specs.Sight.{value}
use Rattle.hgs_report.specs.Lines.{file_if, has_key}

-- the list of names can be read and lacks that of a file
abbrev pub lacks : Option (List (List ℕ)) → List ℕ → Ext → Bool
lacks None path ext = false
lacks (Some names) path ext = not (among (listed_name path ext) names)

-- one of these paths has a file of this name
abbrev pub is_taken : List (List ℕ) → Ext → List ℕ → Bool
is_taken paths ext file = list_any (λ path. same file (store_name path ext)) paths

abbrev pub is_named : List (List ℕ) → Ext → List ℕ → Bool
is_named paths ext name = list_any (λ path. same name (listed_name path ext)) paths

-- whether a filelog has this file, where those of the given paths are inline
abbrev pub has_name : List (Vec ℕ Global) → Ext → List ℕ → Bool
has_name inline I path = true
has_name inline D path = not (has_key inline path)

-- the list can be read and lacks the name of a file that the filelog has
abbrev pub is_lacking : Option (List (List ℕ)) → List (Vec ℕ Global) → Ext → List ℕ → Bool
is_lacking names inline ext path = has_name inline ext path && lacks names path ext

-- the file of a path, behind those of these paths; whether its name is lacking
abbrev pub of_name : Bool → Ext → List (List ℕ) → List ℕ → List Finding
of_name lacking ext before path = file_if lacking (store_name path ext) 10 ++ file_if (is_taken before ext (store_name path ext)) (store_name path ext) 11

-- which of the paths have a name that is lacking
abbrev pub of_names : (List ℕ → Bool) → Ext → List (List ℕ) → List (List ℕ) → List Finding
of_names lacking ext before [] = []
of_names lacking ext before (path ∷ paths) = of_name (lacking path) ext before path ++ of_names lacking ext (path ∷ before) paths

-- of the used paths of a tree these have inline filelogs
abbrev pub AreInline : Tree → List (Vec ℕ Global) → Type 0
AreInline t inline = (path : List ℕ) → is_used (sight_of t) path ≡ true → has_key inline path ≡ is_inline (bytes_at t (store_name path I))

-- these are the names in the set
abbrev pub IsSetOf : Option (List (List ℕ)) → Option (BTreeSet (Vec ℕ Global)) → Type 0
IsSetOf None None = Unit {0}
IsSetOf None (Some set) = ⊥
IsSetOf (Some names) None = ⊥
IsSetOf (Some names) (Some set) = (name : List ℕ) → has_key set.keys name ≡ among name names

-- the files of the names that the set lacks
abbrev pub unused_files : List (Vec ℕ Global) → List (List ℕ) → List (List ℕ)
unused_files keys names = map listed_file (filter (λ name. not (has_key keys name)) names)

-- the list can't be read
pub data IsBadList (t : Tree) : List ℕ → Option ℕ → ℕ → Type 0 where
  bad_list : is_some (value (names_of (bytes_at t fncache_path))) ≡ false → IsBadList t fncache_path None 4

-- the findings of the names of files of one kind
pub data IsNameOf (t : Tree) (ext : Ext) : List ℕ → Option ℕ → ℕ → Type 0 where
  not_listed : (path : List ℕ) (names : List (List ℕ)) → is_used (sight_of t) path ≡ true → has_file t path ext ≡ true → names_of (bytes_at t fncache_path) ≡ Ok names → lists names path ext ≡ false → IsNameOf t ext (store_name path ext) None 10
  one_name : (path other : List ℕ) → is_used (sight_of t) path ≡ true → is_used (sight_of t) other ≡ true → same other path ≡ false → same (store_name other ext) (store_name path ext) ≡ true → IsNameOf t ext (store_name path ext) None 11

abbrev pub IsOfNames : Tree → List ℕ → Option ℕ → ℕ → Type 0
IsOfNames t file rev kind = (IsBadList t file rev kind ⊎ IsNameOf t I file rev kind) ⊎ IsNameOf t D file rev kind

-- the files of the listed names that no path uses
abbrev pub unused_in : Tree → List (List ℕ)
unused_in t = map listed_file (filter (λ name. not (is_name_used (sight_of t) name)) (names_in t))

-- those that stand
pub data IsOfUnused (t : Tree) : List ℕ → Option ℕ → ℕ → Type 0 where
  standing : (file : List ℕ) → among file (unused_in t) ≡ true → (length (bytes_at t file) == 0) ≡ false → IsOfUnused t file None 12
