-- Operations that undo, as they are done one after another.
use Rattle.std.specs.Prelude.{◌≡◌, ℕ, List, [], ◌∷◌, Bool, true, false}
use Rattle.hgs_files.specs.declared.op.Op.{Op}
use Rattle.hgs_files.specs.Log.{IsDone}
use Rattle.hgs_journal.specs.declared.backups.BackupLine.{BackupLine}
use Rattle.hgs_journal.specs.declared.journal.JournalLine.{JournalLine}
use Rattle.hgs_journal.specs.Undo.{undo_list}

-- the operations undo some journal with some list of backups
pub record IsUndoList (ops : List Op) : Type 0 where
  pub journal : List JournalLine
  pub backups : List BackupLine
  pub kept : List (List ℕ)
  pub whole : ops ≡ undo_list journal backups kept

-- All operations were done; or they broke off at one, of which a piece may be done, and something is left.
abbrev pub Undoes : List Op → Bool → List Op → Type 0
Undoes ops true done = IsDone ops done []
Undoes ops false done = (op : Op) × (left : List Op) × IsDone ops done (op ∷ left)
