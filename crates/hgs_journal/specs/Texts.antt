-- The texts of the journal and of the list of backups. Own form of this project, after `store/journal` and `store/journal.backupfiles` of Mercurial's module `transaction`.
use Rattle.std.specs.Prelude.{◌≡◌, ◌<◌, ◌^◌, ℕ, Bool, true, false, List, [], ◌∷◌, ◌++◌, codes, decimal, flat_map}
use Rattle.std.specs.List.{AllByRecursion}
use Rattle.hgs_bytes.specs.Text.{Lacks, line}
use Rattle.hgs_files.specs.Path.{is_store_path}
use Rattle.hgs_journal.specs.declared.journal.JournalLine.{JournalLine}
use Rattle.hgs_journal.specs.declared.backups.BackupLine.{BackupLine}
use Rattle.hgs_journal.specs.Names.{in_store, place, new_name}

-- ---- the journal

-- name, NUL, offset, LF
abbrev pub journal_line : JournalLine → List ℕ
journal_line l = line (l.name ++ 0 ∷ decimal l.offset)

abbrev pub journal_text : List JournalLine → List ℕ
journal_text lines = flat_map journal_line lines

-- a name of the store that has a path
abbrev pub HasPath : JournalLine → Type 0
HasPath l = is_store_path (in_store l.name) ≡ true

pub record IsJournalLine (l : JournalLine) : Type 0 where
  pub path : HasPath l
  pub offset : l.offset < 2 ^ 64

-- These lines, and a last one that was cut short of its LF or isn't there: it doesn't count.
pub record IsJournalText (text : List ℕ) (lines : List JournalLine) : Type 0 where
  pub each : AllByRecursion IsJournalLine lines
  pub cut : List ℕ
  pub no_lf : Lacks 10 cut
  pub spelled : text ≡ journal_text lines ++ cut

-- ---- the list of backups

-- where a file is: `plain`, or nothing for the store
abbrev pub location : Bool → List ℕ
location true = codes "plain"
location false = []

-- location, NUL, file, NUL, backup, NUL, a field of Mercurial's caches, LF
abbrev pub backup_line : BackupLine → List ℕ → List ℕ
backup_line l cache = line (location l.plain ++ 0 ∷ (l.file ++ 0 ∷ (l.backup ++ 0 ∷ cache)))

abbrev pub version_line : List ℕ
version_line = line (codes "2")

-- what is written has 0 in the last field
abbrev pub backups_text : List BackupLine → List ℕ
backups_text lines = version_line ++ flat_map (λ l. backup_line l (codes "0")) lines

-- a backup is a path where the file is; the empty name says that there is none
abbrev pub is_backup : Bool → List ℕ → Bool
is_backup plain [] = true
is_backup plain (b ∷ backup) = is_store_path (place plain (b ∷ backup))

pub record IsBackupLine (l : BackupLine) : Type 0 where
  pub file : is_store_path (place l.plain l.file) ≡ true
  pub new : is_store_path (place l.plain (new_name l.file)) ≡ true
  pub backup : is_backup l.plain l.backup ≡ true

-- These lines, with any last fields.
abbrev pub AreBackupLines : List ℕ → List BackupLine → Type 0
AreBackupLines text [] = text ≡ []
AreBackupLines text (l ∷ lines) =
    IsBackupLine l × (cache : List ℕ) × Lacks 0 cache × Lacks 10 cache
    × (rest : List ℕ) × (text ≡ backup_line l cache ++ rest) × AreBackupLines rest lines

abbrev pub IsBackupsText : List ℕ → List BackupLine → Type 0
IsBackupsText text lines = (rest : List ℕ) × (text ≡ version_line ++ rest) × AreBackupLines rest lines
