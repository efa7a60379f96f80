-- The names of filelogs' files: none is one of the store's own.
use Rattle.std.proofs.Common.{◌≡◌, ℕ, List, ◌++◌, false, true, ap}
use Rattle.std.specs.Prelude.{codes}
use Rattle.hgs_bytes.specs.Bytes.{among}
use Rattle.hgs_path.specs.declared.name.Ext.{Ext}
use Rattle.hgs_path.specs.ListedNames.{is_listed, listed_file}
use Rattle.hgs_path.specs.StoreName.{store_name}
pub use Rattle.hgs_path.specs.Theorems.AddedLemmas.{name-listed}
pub use Rattle.hgs_path.specs.Theorems.ApartLemmas.{StartsD, kinds-apart, line-d, listed-file, store-d}
use Rattle.hgs_stands.specs.Places.{own_files}
use Rattle.hgs_stands.specs.Theorems.Below.{NameLaws}

pub stores-apart : (path : List ℕ) (ext : Ext) → among (store_name path ext) own_files ≡ false
stores-apart path ext = ap (λ z. among (codes "store/" ++ z) own_files) (store-d path ext).1

pub lines-apart : (name : List ℕ) → is_listed name ≡ true → among (listed_file name) own_files ≡ false
lines-apart name is = ap (λ z. among z own_files) (line-d name is).1

pub file-apart : (names : NameLaws) (path : List ℕ) (ext : Ext) → among (store_name path ext) own_files ≡ false
file-apart names path ext = ap (λ z. among z own_files) (names.file path ext).1

pub line-apart : (names : NameLaws) (name : List ℕ) → is_listed name ≡ true → among (listed_file name) own_files ≡ false
line-apart names name is = ap (λ z. among z own_files) (names.listed name is).1
