-- The operations that undo a transaction.
use Rattle.std.specs.Prelude.{◌==◌, List, [], ◌∷◌, ◌++◌, ℕ, map, reverse, if◌then◌else◌}
use Rattle.hgs_files.specs.declared.op.Op.{Op}
use Rattle.hgs_files.specs.declared.op.Op.TheVariants.{Cut, Rename, Remove, Create}
use Rattle.hgs_journal.specs.declared.journal.JournalLine.{JournalLine}
use Rattle.hgs_journal.specs.declared.backups.BackupLine.{BackupLine}
use Rattle.hgs_journal.specs.Names.{in_store, place, new_name, journal_path}

-- a file is cut to its length before, or removed where that is 0
abbrev pub undo_line : JournalLine → Op
undo_line l = if l.offset == 0 then Remove (in_store l.name) else Cut (in_store l.name) l.offset

-- a file gets the bytes of its backup, by way of its new name, or is removed where there is none
abbrev pub undo_with : BackupLine → List ℕ → List ℕ → List Op
undo_with l [] kept = Remove (place l.plain l.file) ∷ []
undo_with l (b ∷ backup) kept =
    Create (place l.plain (new_name l.file)) kept ∷ Rename (place l.plain (new_name l.file)) (place l.plain l.file) ∷ []

abbrev pub undo_backup : BackupLine → List ℕ → List Op
undo_backup l kept = undo_with l l.backup kept

abbrev pub undo_backups : List BackupLine → List (List ℕ) → List Op
undo_backups [] kept = []
undo_backups (l ∷ lines) [] = []
undo_backups (l ∷ lines) (k ∷ kept) = undo_backup l k ++ undo_backups lines kept

-- the journal's lines from the last to the first, then the backups, and at the end the journal goes
abbrev pub undo_list : List JournalLine → List BackupLine → List (List ℕ) → List Op
undo_list journal backups kept = map undo_line (reverse journal) ++ undo_backups backups kept ++ Remove journal_path ∷ []
