-- What the crates below say of journals and of trees that stand, as their laws say it.
use Rattle.std.specs.Prelude.{◌≡◌, ◌⊎◌, ℕ, List, [], false}
use Rattle.std.specs.List.{AllByRecursion}
use Rattle.hgs_bytes.specs.Bytes.{same}
use Rattle.hgs_files.specs.declared.op.Op.{Op}
use Rattle.hgs_files.specs.declared.op.Op.TheVariants.{Rename}
use Rattle.hgs_files.specs.Log.{IsDone}
use Rattle.hgs_files.specs.Tree.{Tree, after_all, apply, bytes_at}
use Rattle.hgs_journal.specs.declared.backups.BackupLine.{BackupLine}
use Rattle.hgs_journal.specs.declared.journal.JournalLine.{JournalLine}
use Rattle.hgs_journal.specs.Begun.{IsAllowed, IsPrepared, LeadsBack, bytes_before, is_free}
use Rattle.hgs_journal.specs.Covers.{HasOwnStrays, Restores, is_loose, undo_ops}
use Rattle.hgs_journal.specs.Names.{journal_path, new_journal_path}
use Rattle.hgs_journal.specs.Undo.{undo_list}
use Rattle.hgs_model.specs.Repo.{Repo}
use Rattle.hgs_stands.specs.Same.{AreStrays}
use Rattle.hgs_stands.specs.Stands.{Stands}

pub record Below : Type 0 where
  pub named : (strays : List (List ℕ)) (journal : List JournalLine) (backups : List BackupLine) (t q : Tree) → HasOwnStrays strays → IsPrepared strays journal backups t q → LeadsBack strays journal backups (apply (Rename new_journal_path journal_path) t) q
  pub changed : (strays : List (List ℕ)) (t q : Tree) (journal : List JournalLine) (backups : List BackupLine) (ops done left : List Op) → HasOwnStrays strays → LeadsBack strays journal backups t q → AllByRecursion (IsAllowed journal backups) ops → IsDone ops done left → LeadsBack strays journal backups (after_all done t) q
  pub free : (strays : List (List ℕ)) (t u q : Tree) (journal : List JournalLine) (backups : List BackupLine) → LeadsBack strays journal backups t q → ((path : List ℕ) → is_free strays backups path ≡ false → u path ≡ t path) → LeadsBack strays journal backups u q
  pub leads : (strays : List (List ℕ)) (t q : Tree) (journal : List JournalLine) (backups : List BackupLine) → HasOwnStrays strays → LeadsBack strays journal backups t q → Restores strays (after_all (undo_ops t journal backups) t) q
  pub kept : (strays : List (List ℕ)) (t q : Tree) (journal : List JournalLine) (backups : List BackupLine) → LeadsBack strays journal backups t q → undo_ops t journal backups ≡ undo_list journal backups (bytes_before q backups)
  pub parts : (strays : List (List ℕ)) (t q : Tree) (journal : List JournalLine) (backups : List BackupLine) (done left : List Op) → HasOwnStrays strays → LeadsBack strays journal backups t q → IsDone (undo_ops t journal backups) done left → LeadsBack strays journal backups (after_all done t) q ⊎ ((left ≡ []) × Restores strays (after_all done t) q)
  pub files : (strays : List (List ℕ)) (t q : Tree) (journal : List JournalLine) (backups : List BackupLine) (path : List ℕ) (done left : List Op) → HasOwnStrays strays → LeadsBack strays journal backups t q → is_loose strays path ≡ false → same path journal_path ≡ false → IsDone (undo_ops t journal backups) done left → (bytes_at (after_all done t) path ≡ bytes_at t path) ⊎ (bytes_at (after_all done t) path ≡ bytes_at q path)
  pub loose : (strays : List (List ℕ)) (t u : Tree) (r : Repo) → AreStrays strays → ((path : List ℕ) → is_loose strays path ≡ false → u path ≡ t path) → Stands t r → Stands u r
  pub restored : (strays : List (List ℕ)) (u q : Tree) (r : Repo) → AreStrays strays → Restores strays u q → Stands q r → Stands u r
