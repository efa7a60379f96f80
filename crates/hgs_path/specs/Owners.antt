-- The paths that have a name.
use Rattle.std.specs.Prelude.{◌≡◌, not, ℕ, List, Bool, true, false, ◌&&◌, ◌||◌, Option, Some, None, is_some, Vec}
use Rattle.std.specs.List.{list_any}
use Rattle.std.specs.BTreeMap.{BTreeMap, get}
use Rattle.std.specs.Cmp.Lexicographic.{slice_cmp}
use Rattle.std.specs.Ordering.{nat_cmp, is_eq}
use Rattle.std.specs.declared.alloc.Global.{Global}
use Rattle.hgs_bytes.specs.Bytes.{same}
use Rattle.hgs_path.specs.declared.name.Ext.{Ext}
use Rattle.hgs_path.specs.declared.name.Ext.TheVariants.{I, D}
use Rattle.hgs_path.specs.declared.owners.Owners.{Owners}
use Rattle.hgs_path.specs.StoreName.{listed_name, is_plain, store_name}

-- the path that a map has at a name
abbrev pub path_at : BTreeMap (List ℕ) (List ℕ) → List ℕ → Option (List ℕ)
path_at m name = get (slice_cmp nat_cmp) m name

-- What is kept of the paths that own a name, tested at a path: the first is one of them and the second another. Where
-- there is no second no other path owns the name, and where there is no first none does.
abbrev pub is_kept : (List ℕ → Bool) → Option (List ℕ) → Option (List ℕ) → List ℕ → Bool
is_kept owns None second path = not (owns path) && not (is_some second)
is_kept owns (Some first) None path = owns first && (same path first || not (owns path))
is_kept owns (Some first) (Some second) path = owns first && (owns second && not (same second first))

-- `owns name path`: whether the path owns the name
abbrev pub Keeps : (List ℕ → List ℕ → Bool) → Owners → Type 0
Keeps owns o = (name path : List ℕ) → is_kept (owns name) (path_at o.first name) (path_at o.second name) path ≡ true

-- these owners and one more
abbrev pub with_owner : (List ℕ → List ℕ → Bool) → List ℕ → List ℕ → List ℕ → List ℕ → Bool
with_owner owns name path n q = owns n q || (same q path && same name n)

-- an owner that is another path than this, or none where no other path owns the name
abbrev pub IsOther : (List ℕ → Bool) → List ℕ → Option (List ℕ) → Type 0
IsOther owns path None = (q : List ℕ) → (owns q && not (same q path)) ≡ false
IsOther owns path (Some q) = (owns q && not (same q path)) ≡ true

-- ---- hashed names

-- the file has this name, and it is hashed
abbrev pub is_hashed_as : List ℕ → Ext → List ℕ → Bool
is_hashed_as path ext name = not (is_plain (listed_name path ext)) && same (store_name path ext) name

-- the same of one of the path's two files
abbrev pub has_hashed : List ℕ → List ℕ → Bool
has_hashed path name = is_hashed_as path I name || is_hashed_as path D name

abbrev pub has_path : List (Vec ℕ Global) → List ℕ → Bool
has_path paths path = list_any (λ k. is_eq (slice_cmp nat_cmp path k.items)) paths

-- a path of one of two sets owns the hashed names of both its files
abbrev pub owns_name : List (Vec ℕ Global) → List (Vec ℕ Global) → List ℕ → List ℕ → Bool
owns_name indexes datas name path = (has_path indexes path || has_path datas path) && has_hashed path name

-- these owners, and a path of the names of both its files that are hashed
abbrev pub with_path : (List ℕ → List ℕ → Bool) → List ℕ → List ℕ → List ℕ → Bool
with_path owns path n q = owns n q || (same q path && has_hashed path n)

-- the same of one of its files
abbrev pub with_file_name : (List ℕ → List ℕ → Bool) → List ℕ → Ext → List ℕ → List ℕ → Bool
with_file_name owns path ext n q = owns n q || (same q path && is_hashed_as path ext n)
