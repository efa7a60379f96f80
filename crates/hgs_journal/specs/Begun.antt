-- Trees in which a journal gets its name, and what may be done while it stands.
use Rattle.std.specs.Prelude.{◌≡◌, ℕ, List, Bool, true, false, ◌&&◌, ◌||◌, not, length, map, Some, None}
use Rattle.std.specs.List.{AllByRecursion, list_all, list_any}
use Rattle.hgs_bytes.specs.Bytes.{same, among}
use Rattle.hgs_files.specs.declared.op.Op.{Op}
use Rattle.hgs_files.specs.declared.op.Op.TheVariants.{Append, Rename}
use Rattle.hgs_files.specs.Tree.{Tree, bytes_at}
use Rattle.hgs_journal.specs.declared.journal.JournalLine.{JournalLine}
use Rattle.hgs_journal.specs.declared.backups.BackupLine.{BackupLine}
use Rattle.hgs_journal.specs.Covers.{Covers, KeepsBackup, ReadsAs, backup_places, is_loose, journal_paths, no_repeat}
use Rattle.hgs_journal.specs.Names.{in_store, place, journal_path, new_journal_path, backups_path, new_name, is_replaced}
use Rattle.hgs_journal.specs.Texts.{IsJournalLine, backups_text, journal_text}

-- The tree t leads back to q, and this journal and this list of backups are read in it.
pub record LeadsBack (strays : List (List ℕ)) (journal : List JournalLine) (backups : List BackupLine) (t q : Tree) : Type 0 where
  pub covers : Covers strays t q
  pub reads : ReadsAs t journal backups

-- the offset is the length of the file in q, 0 where it is absent
abbrev pub HasOffset : Tree → JournalLine → Type 0
HasOffset q l = l.offset ≡ length (bytes_at q (in_store l.name))

-- All is ready in t for a journal of these lines to get its name: locks, strays and the journal aside t is q; its text
-- stands, and the list of backups, and each of these backups has the bytes of its file. Each line has the length of its
-- file, which is neither a lock, a stray, the journal nor a file of the list.
pub record IsPrepared (strays : List (List ℕ)) (journal : List JournalLine) (backups : List BackupLine) (t q : Tree) : Type 0 where
  pub lines : AllByRecursion IsJournalLine journal
  pub offsets : AllByRecursion (HasOffset q) journal
  pub apart : list_any (λ path. is_loose strays path || same path journal_path) (journal_paths journal) ≡ false
  pub unnamed : list_any (λ path. among path (journal_paths journal)) (backup_places backups) ≡ false
  pub text_stands : t new_journal_path ≡ Some (journal_text journal)
  pub list_stands : t backups_path ≡ Some (backups_text backups)
  pub replaced : list_all (λ (l : BackupLine). is_replaced l.plain l.file) backups ≡ true
  pub once : no_repeat (backup_places backups) ≡ true
  pub kept : AllByRecursion (KeepsBackup t q) backups
  pub others : (path : List ℕ) → (is_loose strays path || same path journal_path) ≡ false → t path ≡ q path
  pub undone : q journal_path ≡ None

-- What a transaction may do while its journal stands: an append to a file that the journal names, or the renaming of a new
-- text to a file that the list names and the journal does not.
abbrev pub IsAllowed : List JournalLine → List BackupLine → Op → Type 0
IsAllowed journal backups (Append path bytes) = among path (journal_paths journal) ≡ true
IsAllowed journal backups (Rename from to) =
    (plain : Bool) × (file : List ℕ) × (from ≡ place plain (new_name file)) × (to ≡ place plain file) × (is_replaced plain file ≡ true)
    × (among (place plain file) (backup_places backups) ≡ true) × (among (place plain file) (journal_paths journal) ≡ false)
IsAllowed journal backups _ = ⊥

-- the bytes that the files of a list have in q, none where they are absent: those that a writer keeps
abbrev pub bytes_before : Tree → List BackupLine → List (List ℕ)
bytes_before q backups = map (λ (l : BackupLine). bytes_at q (place l.plain l.file)) backups

-- what undoing needs: the journal, the list, and the backups that it names
abbrev pub is_needed : List BackupLine → List ℕ → Bool
is_needed backups path = same path journal_path || same path backups_path || among path (map (λ (l : BackupLine). place l.plain l.backup) backups)

-- a lock, or a stray that undoing does not need
abbrev pub is_free : List (List ℕ) → List BackupLine → List ℕ → Bool
is_free strays backups path = is_loose strays path && not (is_needed backups path)
