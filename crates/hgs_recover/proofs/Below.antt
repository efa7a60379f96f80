-- What the crates below say of journals and of trees that stand, as their laws say it.
use Rattle.std.specs.Prelude.{◌≡◌, ◌⊎◌, ℕ, List, [], false, Ok}
use Rattle.hgs_bytes.specs.Bytes.{same}
use Rattle.hgs_files.specs.declared.op.Op.{Op}
use Rattle.hgs_files.specs.Log.{IsDone}
use Rattle.hgs_files.specs.Tree.{Tree, after_all, bytes_at}
use Rattle.hgs_journal.specs.declared.backups.BackupLine.{BackupLine}
use Rattle.hgs_journal.specs.declared.journal.JournalLine.{JournalLine}
use Rattle.hgs_journal.specs.Begun.{LeadsBack}
use Rattle.hgs_journal.specs.Covers.{HasOwnStrays, Restores, is_loose, undo_ops}
use Rattle.hgs_journal.specs.Names.{journal_path}
use Rattle.hgs_journal.specs.Read.{read_backups, read_journal}
use Rattle.hgs_journal.specs.Texts.{IsBackupsText, IsJournalText}
use Rattle.hgs_model.specs.Repo.{Repo}
use Rattle.hgs_stands.specs.Same.{AreStrays}
use Rattle.hgs_stands.specs.Stands.{Stands}
use Rattle.hgs_recover.proofs.Stopping.{ArePieces}
use Rattle.hgs_recover.proofs.Undone.{Joins}

pub record Below : Type 0 where
  -- operations in pieces
  pub joins : Joins
  pub pieces : ArePieces
  -- journals
  pub journal_reads : (text : List ℕ) (lines : List JournalLine) → IsJournalText text lines → read_journal text ≡ Ok lines
  pub backups_read : (text : List ℕ) (lines : List BackupLine) → IsBackupsText text lines → read_backups text ≡ Ok lines
  pub leads : (strays : List (List ℕ)) (t q : Tree) (journal : List JournalLine) (backups : List BackupLine) → HasOwnStrays strays → LeadsBack strays journal backups t q → Restores strays (after_all (undo_ops t journal backups) t) q
  pub parts : (strays : List (List ℕ)) (t q : Tree) (journal : List JournalLine) (backups : List BackupLine) (done left : List Op) → HasOwnStrays strays → LeadsBack strays journal backups t q → IsDone (undo_ops t journal backups) done left → LeadsBack strays journal backups (after_all done t) q ⊎ ((left ≡ []) × Restores strays (after_all done t) q)
  pub files : (strays : List (List ℕ)) (t q : Tree) (journal : List JournalLine) (backups : List BackupLine) (path : List ℕ) (done left : List Op) → HasOwnStrays strays → LeadsBack strays journal backups t q → is_loose strays path ≡ false → same path journal_path ≡ false → IsDone (undo_ops t journal backups) done left
      → (bytes_at (after_all done t) path ≡ bytes_at t path) ⊎ (bytes_at (after_all done t) path ≡ bytes_at q path)
  -- trees that stand
  pub loose : (strays : List (List ℕ)) (t u : Tree) (r : Repo) → AreStrays strays → ((path : List ℕ) → is_loose strays path ≡ false → u path ≡ t path) → Stands t r → Stands u r
  pub restored : (strays : List (List ℕ)) (u q : Tree) (r : Repo) → AreStrays strays → Restores strays u q → Stands q r → Stands u r
