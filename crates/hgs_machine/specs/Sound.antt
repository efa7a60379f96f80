-- Parts of a transaction whose plan can be carried out.
use Rattle.std.specs.Prelude.{◌≡◌, ◌<◌, List, [], ◌∷◌, Bool, true, false, length}
use Rattle.std.specs.List.{list_any}
use Rattle.hgs_bytes.specs.Bytes.{same}
use Rattle.hgs_files.specs.Tree.{Tree, bytes_at, touches}
use Rattle.hgs_transaction.specs.declared.parts.Change.{Change}
use Rattle.hgs_transaction.specs.declared.parts.Change.TheVariants.{Append, Replace, MakeIndex, RenameIndex}
use Rattle.hgs_transaction.specs.declared.parts.Parts.{Parts}
use Rattle.hgs_transaction.specs.declared.parts.Replacing.{Replacing}
use Rattle.hgs_transaction.specs.Assembled.{before_publishing}
use Rattle.hgs_transaction.specs.Parts.{all_changes, file_name, replacings_of}

-- no file is replaced twice
abbrev pub AreOnce : List Replacing → Type 0
AreOnce [] = Unit {0}
AreOnce (x ∷ files) = (list_any (λ y. same (file_name x.file) (file_name y.file)) files ≡ false) × AreOnce files

-- A publishing append is of some bytes, to a file that is as long as it says, and that no operation before it names.
abbrev pub IsPublished : Tree → Parts → Change → Type 0
IsPublished t p (Append a) = (0 < length a.bytes) × (a.before ≡ length (bytes_at t a.path)) × (list_any (λ op. touches op a.path) (before_publishing p) ≡ false)
IsPublished t p (Replace x) = Unit {0}
IsPublished t p (MakeIndex bytes) = ⊥
IsPublished t p (RenameIndex before) = Unit {0}

-- Behind changes that have made the changelog's new index, or have not, it is made before each rename of it.
abbrev pub AreMadeFirst : Bool → List Change → Type 0
AreMadeFirst made [] = Unit {0}
AreMadeFirst made (Append a ∷ changes) = AreMadeFirst made changes
AreMadeFirst made (Replace x ∷ changes) = AreMadeFirst made changes
AreMadeFirst made (MakeIndex bytes ∷ changes) = AreMadeFirst true changes
AreMadeFirst made (RenameIndex before ∷ changes) = (made ≡ true) × AreMadeFirst false changes

-- No file is replaced twice, the new index is made before it is renamed, and the publishing operation finds its file as it says.
pub record AreSound (t : Tree) (p : Parts) : Type 0 where
  pub once : AreOnce (replacings_of (all_changes p))
  pub made : AreMadeFirst false (all_changes p)
  pub publishing : IsPublished t p p.publishing
