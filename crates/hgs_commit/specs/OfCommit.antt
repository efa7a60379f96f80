-- The shape of a commit's parts.
use Rattle.std.specs.Prelude.{◌≡◌, ◌*◌, ◌≤◌, List, [], ◌∷◌, ◌++◌, true, length, Option, Some, None, IfSome}
use Rattle.std.specs.List.{list_all}
use Rattle.hgs_load.specs.View.{changelog_index}
use Rattle.hgs_revlog.specs.Log.{Log}
use Rattle.hgs_transaction.specs.declared.parts.Change.{Change}
use Rattle.hgs_transaction.specs.declared.parts.Change.TheVariants.{Append, MakeIndex, RenameIndex, Replace}
use Rattle.hgs_transaction.specs.declared.parts.Parts.{Parts}
use Rattle.hgs_transaction.specs.declared.parts.ReplacedFile.TheVariants.{PhaseRoots, Dirstate, Bookmarks}
use Rattle.hgs_transaction.specs.declared.parts.Replacing.{Replacing}
use Rattle.hgs_commit.specs.Appended.{is_beside}

-- the dirstate is replaced behind the publishing operation, and then the bookmarks where one is set
abbrev pub AreReplacedAfter : List Replacing → Type 0
AreReplacedAfter [] = ⊥
AreReplacedAfter (d ∷ []) = d.file ≡ Dirstate
AreReplacedAfter (d ∷ b ∷ []) = (d.file ≡ Dirstate) × (b.file ≡ Bookmarks)
AreReplacedAfter (d ∷ b ∷ x ∷ files) = ⊥

abbrev pub optional_replace : Option Replacing → List Change
optional_replace None = []
optional_replace (Some x) = Replace x ∷ []

-- A commit is published by the append of a whole entry to the changelog's index, behind the entries that were loaded.
abbrev pub IsEntryBehind : Log → Change → Type 0
IsEntryBehind log (Append a) = (a.path ≡ changelog_index) × (a.before ≡ 64 * length log.entries) × (length a.bytes ≡ 64)
IsEntryBehind log (Replace x) = ⊥
IsEntryBehind log (MakeIndex bytes) = ⊥
IsEntryBehind log (RenameIndex before) = ⊥

-- Before that it appends to other files of the store, and replaces the phase roots, where they change.
pub record ArePartsOfCommit (log : Log) (p : Parts) : Type 0 where
  pub appends : List Change
  pub roots : Option Replacing
  pub before : p.before ≡ appends ++ optional_replace roots
  pub beside : list_all is_beside appends ≡ true
  pub are_roots : IfSome roots (λ x. x.file ≡ PhaseRoots)
  pub few : length appends ≤ 40010
  pub publishing : IsEntryBehind log p.publishing
  pub after : AreReplacedAfter p.after
