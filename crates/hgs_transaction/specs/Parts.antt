-- What each part of a transaction asks for: a line of the journal, or a line of the list of backups, a backup and a new text.
use Rattle.std.specs.Prelude.{◌≡◌, ℕ, List, [], ◌∷◌, ◌++◌, Bool, true, false, drop, map, Option, Some, None, is_some, unwrap_or, if◌then◌else◌, codes}
use Rattle.std.specs.List.{filter_map}
use Rattle.hgs_bytes.specs.Bytes.{begins_with}
use Rattle.hgs_files.specs.declared.op.Op.{Op}
use Rattle.hgs_journal.specs.declared.backups.BackupLine.{BackupLine}
use Rattle.hgs_journal.specs.declared.journal.JournalLine.{JournalLine}
use Rattle.hgs_journal.specs.Names.{backup_name, in_store}
use Rattle.hgs_ops.specs.Operations.{new_changelog_path}
use Rattle.hgs_ops.specs.Replaced.{Replacement, new_rename}
use Rattle.hgs_stands.specs.Places.{changelog_index}
use Rattle.hgs_transaction.specs.declared.parts.Change.{Change}
use Rattle.hgs_transaction.specs.declared.parts.Change.TheVariants.{Append, Replace, MakeIndex, RenameIndex}
use Rattle.hgs_transaction.specs.declared.parts.Parts.{Parts}
use Rattle.hgs_transaction.specs.declared.parts.ReplacedFile.{ReplacedFile}
use Rattle.hgs_transaction.specs.declared.parts.ReplacedFile.TheVariants.{PhaseRoots, Dirstate, Bookmarks}
use Rattle.hgs_transaction.specs.declared.parts.Replacing.{Replacing}

-- the phase roots are in the store, the dirstate and the bookmarks beside it
abbrev pub is_plain : ReplacedFile → Bool
is_plain PhaseRoots = false
is_plain Dirstate = true
is_plain Bookmarks = true

abbrev pub file_name : ReplacedFile → List ℕ
file_name PhaseRoots = codes "phaseroots"
file_name Dirstate = codes "dirstate"
file_name Bookmarks = codes "bookmarks"

-- the file with its new text
abbrev pub replacement_of : Replacing → Replacement
replacement_of x = record { plain = is_plain x.file; file = file_name x.file; text = x.text }

-- whether a file that is appended to is in the store
abbrev pub is_in_store : Change → Bool
is_in_store (Append a) = begins_with a.path (codes "store/")
is_in_store (Replace x) = true
is_in_store (MakeIndex bytes) = true
is_in_store (RenameIndex before) = true

-- the length before of a file that is appended to, 0 of every other change: of a rename no size has to tell whether it is done
abbrev pub length_before : Change → ℕ
length_before (Append a) = a.before
length_before (Replace x) = 0
length_before (MakeIndex bytes) = 0
length_before (RenameIndex before) = 0

-- the path is that of its name in the store
abbrev pub IsInStore : Change → Type 0
IsInStore (Append a) = in_store (drop 6 a.path) ≡ a.path
IsInStore (Replace x) = Unit {0}
IsInStore (MakeIndex bytes) = Unit {0}
IsInStore (RenameIndex before) = Unit {0}

-- the operation that makes the change
abbrev pub change_op : Change → Op
change_op (Append a) = Op.Append a.path a.bytes
change_op (Replace x) = new_rename (replacement_of x)
change_op (MakeIndex bytes) = Op.Create new_changelog_path bytes
change_op (RenameIndex before) = Op.Rename new_changelog_path changelog_index

-- a line of the journal for a file that is appended to, and for the changelog's index where a new one that begins with its bytes takes its place
abbrev pub line_of : Change → Option JournalLine
line_of (Append a) = Some (record { name = drop 6 a.path; offset = a.before })
line_of (Replace x) = None
line_of (MakeIndex bytes) = None
line_of (RenameIndex before) = Some (record { name = codes "00changelog.i"; offset = before })

abbrev pub replacing_of : Change → Option Replacing
replacing_of (Append a) = None
replacing_of (Replace x) = Some x
replacing_of (MakeIndex bytes) = None
replacing_of (RenameIndex before) = None

-- the line of the list of backups, with no backup where the file is absent
abbrev pub backup_of : Replacing → BackupLine
backup_of x = record {
  plain = is_plain x.file;
  file = file_name x.file;
  backup = if is_some x.standing then backup_name (file_name x.file) else [];
}

-- the bytes that stand, none where the file is absent
abbrev pub kept_of : Replacing → List ℕ
kept_of x = unwrap_or x.standing []

abbrev pub lines_of : List Change → List JournalLine
lines_of changes = filter_map line_of changes

abbrev pub replacings_of : List Change → List Replacing
replacings_of changes = filter_map replacing_of changes

-- all changes, in their order
abbrev pub all_changes : Parts → List Change
all_changes p = p.before ++ p.publishing ∷ map (λ x. Replace x) p.after
