-- What is appended of a new revision to the two files of its revlog.
use Rattle.std.specs.Prelude.{ℕ, List, [], ◌∷◌, Bool, false, ◌&&◌, not, codes, Option, Some, None}
use Rattle.hgs_bytes.specs.Bytes.{begins_with}
use Rattle.hgs_files.specs.Tree.{same_path}
use Rattle.hgs_load.specs.View.{changelog_index}
use Rattle.hgs_transaction.specs.declared.parts.Appending.{Appending}
use Rattle.hgs_transaction.specs.declared.parts.Change.{Change}
use Rattle.hgs_transaction.specs.declared.parts.Change.TheVariants.{Append, MakeIndex, RenameIndex, Replace}

abbrev pub append_some : List ℕ → ℕ → List ℕ → List Change
append_some path before [] = []
append_some path before (b ∷ bytes) = Append (record { path = path; before = before; bytes = b ∷ bytes }) ∷ []

abbrev pub optional_append : Option Appending → List Change
optional_append None = []
optional_append (Some a) = Append a ∷ []

-- a path in the store that is not the changelog's index, by which a commit is published
abbrev pub is_beside_path : List ℕ → Bool
is_beside_path path = begins_with path (codes "store/") && not (same_path path changelog_index)

-- an append to another file of the store than the changelog's index
abbrev pub is_beside : Change → Bool
is_beside (Append a) = is_beside_path a.path
is_beside (Replace x) = false
is_beside (MakeIndex bytes) = false
is_beside (RenameIndex before) = false
