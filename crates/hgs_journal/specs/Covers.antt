-- A tree with an open transaction that can be undone, and what undoing it leads to.
use Rattle.std.specs.Prelude.{Option, Ok, ◌≡◌, ◌⊎◌, ◌≤◌, ℕ, List, [], ◌∷◌, Bool, true, false, ◌&&◌, ◌||◌, not, length, take, map, codes, Some, None}
use Rattle.std.specs.List.{AllByRecursion, list_all, list_any}
use Rattle.hgs_bytes.specs.Bytes.{same, among}
use Rattle.hgs_files.specs.declared.op.Op.{Op}
use Rattle.hgs_files.specs.Tree.{Tree, bytes_at}
use Rattle.hgs_journal.specs.declared.journal.JournalLine.{JournalLine}
use Rattle.hgs_journal.specs.declared.backups.BackupLine.{BackupLine}
use Rattle.hgs_journal.specs.Names.{in_store, place, journal_path, new_journal_path, backups_path, locks, backup_name, new_name, is_replaced}
use Rattle.hgs_journal.specs.Read.{read_journal, read_backups}
use Rattle.hgs_journal.specs.Texts.{IsJournalText, IsBackupsText}
use Rattle.hgs_journal.specs.Undo.{undo_list}

-- the files that undoing reads and writes beside the journal, which mean nothing without it
abbrev pub own_strays : List (List ℕ)
own_strays =
    backups_path
    ∷ place false (backup_name (codes "phaseroots")) ∷ place false (new_name (codes "phaseroots"))
    ∷ place true (backup_name (codes "dirstate")) ∷ place true (new_name (codes "dirstate"))
    ∷ place true (backup_name (codes "bookmarks")) ∷ place true (new_name (codes "bookmarks"))
    ∷ []

-- these are among the strays, and so is the journal before it gets its name
abbrev pub HasOwnStrays : List (List ℕ) → Type 0
HasOwnStrays strays = list_all (λ path. among path strays) (new_journal_path ∷ own_strays) ≡ true

-- locks and strays: no repository rests on them
abbrev pub is_loose : List (List ℕ) → List ℕ → Bool
is_loose strays path = among path locks || among path strays

abbrev pub journal_paths : List JournalLine → List (List ℕ)
journal_paths journal = map (λ (l : JournalLine). in_store l.name) journal

abbrev pub backup_places : List BackupLine → List (List ℕ)
backup_places backups = map (λ (l : BackupLine). place l.plain l.file) backups

-- The file has in t at least as many bytes as the offset, and in q just the first of these; or the offset is 0 and q lacks the file. An absent file of t counts as an empty one.
abbrev pub KeepsFront : Tree → Tree → JournalLine → Type 0
KeepsFront t q l =
    ((l.offset ≤ length (bytes_at t (in_store l.name))) × (q (in_store l.name) ≡ Some (take l.offset (bytes_at t (in_store l.name)))))
    ⊎ ((l.offset ≡ 0) × (q (in_store l.name) ≡ None))

-- The backup has in t the bytes of the file in q; or there is no backup and q lacks the file.
abbrev pub KeepsBackup : Tree → Tree → BackupLine → Type 0
KeepsBackup t q l =
    ((l.backup ≡ backup_name l.file) × (bytes : List ℕ) × (t (place l.plain l.backup) ≡ Some bytes) × (q (place l.plain l.file) ≡ Some bytes))
    ⊎ ((l.backup ≡ []) × (q (place l.plain l.file) ≡ None))

abbrev pub no_repeat : List (List ℕ) → Bool
no_repeat [] = true
no_repeat (x ∷ xs) = not (among x xs) && no_repeat xs

-- The journal and the list of backups in t lead back to q.
pub record Covers (strays : List (List ℕ)) (t q : Tree) : Type 0 where
  pub journal : List JournalLine
  pub journal_bytes : List ℕ
  pub journal_stands : t journal_path ≡ Some journal_bytes
  pub journal_text : IsJournalText journal_bytes journal
  pub backups : List BackupLine
  pub backups_bytes : List ℕ
  pub backups_stand : t backups_path ≡ Some backups_bytes
  pub backups_text : IsBackupsText backups_bytes backups
  pub apart : list_any (λ path. is_loose strays path || same path journal_path) (journal_paths journal) ≡ false
  pub replaced : list_all (λ (l : BackupLine). is_replaced l.plain l.file) backups ≡ true
  pub once : no_repeat (backup_places backups) ≡ true
  pub fronts : AllByRecursion (KeepsFront t q) journal
  pub kept : AllByRecursion (KeepsBackup t q) backups
  pub others : (path : List ℕ) → (is_loose strays path || same path journal_path || among path (journal_paths journal) || among path (backup_places backups)) ≡ false → t path ≡ q path
  pub undone : q journal_path ≡ None

-- what is read of a tree's journal and list of backups
pub record ReadsAs (t : Tree) (journal : List JournalLine) (backups : List BackupLine) : Type 0 where
  pub journal_read : read_journal (bytes_at t journal_path) ≡ Ok journal
  pub backups_read : read_backups (bytes_at t backups_path) ≡ Ok backups

-- the bytes of a backup, none where there is no backup
abbrev pub bytes_of_backup : Tree → BackupLine → List ℕ → List ℕ
bytes_of_backup t l [] = []
bytes_of_backup t l (b ∷ backup) = bytes_at t (place l.plain (b ∷ backup))

abbrev pub kept_bytes : Tree → List BackupLine → List (List ℕ)
kept_bytes t backups = map (λ (l : BackupLine). bytes_of_backup t l l.backup) backups

-- the undo list of these, with the backups as they stand in the tree
abbrev pub undo_ops : Tree → List JournalLine → List BackupLine → List Op
undo_ops t journal backups = undo_list journal backups (kept_bytes t backups)

-- a file is as it was, or it is gone and was empty
abbrev pub IsRestored : Option (List ℕ) → Option (List ℕ) → Type 0
IsRestored now before = (now ≡ before) ⊎ ((now ≡ None) × (before ≡ Some []))

-- Locks, strays and empty files aside, t has the files of q.
abbrev pub Restores : List (List ℕ) → Tree → Tree → Type 0
Restores strays t q = (path : List ℕ) → is_loose strays path ≡ false → IsRestored (t path) (q path)
