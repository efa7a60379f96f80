-- Undoing, by the journal and the list that are read.
use Rattle.std.proofs.Common.{◌≡◌, ◌⊎◌, ℕ, List, [], sym, subst}
use Rattle.hgs_files.specs.declared.op.Op.{Op}
use Rattle.hgs_files.specs.Log.{IsDone}
use Rattle.hgs_files.specs.Stop.{StopLeaves}
use Rattle.hgs_files.specs.Tree.{Tree, after_all}
use Rattle.hgs_journal.specs.Begun.{LeadsBack}
use Rattle.hgs_journal.specs.Covers.{HasOwnStrays, Restores, undo_ops}
use Rattle.hgs_journal.specs.declared.backups.BackupLine.{BackupLine}
use Rattle.hgs_journal.specs.declared.journal.JournalLine.{JournalLine}
use Rattle.hgs_journal.specs.Theorems.UndoStops.{named-read, read-covers, undo-leads, undo-parts, undo-stops}

module _ (strays : List (List ℕ)) (own : HasOwnStrays strays) (journal : List JournalLine) (backups : List BackupLine) (t q : Tree) (leads : LeadsBack strays journal backups t q) where
  is : (leads.covers.journal ≡ journal) × (leads.covers.backups ≡ backups)
  is = named-read strays t q leads.covers journal backups leads.reads

  ops-are : undo_ops t leads.covers.journal leads.covers.backups ≡ undo_ops t journal backups
  ops-are = read-covers strays t q leads.covers journal backups leads.reads

  pub lead-restores : Restores strays (after_all (undo_ops t journal backups) t) q
  lead-restores = subst (λ (ops : List Op). Restores strays (after_all ops t) q) ops-are (undo-leads strays own t q leads.covers)

  turned : (P : Tree → Type 0) (u : Tree) → LeadsBack strays leads.covers.journal leads.covers.backups u q ⊎ P u → LeadsBack strays journal backups u q ⊎ P u
  turned P u = subst (λ (bs : List BackupLine). LeadsBack strays leads.covers.journal leads.covers.backups u q ⊎ P u → LeadsBack strays journal bs u q ⊎ P u) is.1 (subst (λ (ls : List JournalLine). LeadsBack strays leads.covers.journal leads.covers.backups u q ⊎ P u → LeadsBack strays ls leads.covers.backups u q ⊎ P u) is.0 (λ x. x))

  pub lead-parts : (done left : List Op) → IsDone (undo_ops t journal backups) done left → LeadsBack strays journal backups (after_all done t) q ⊎ ((left ≡ []) × Restores strays (after_all done t) q)
  lead-parts done left h = turned (λ u. (left ≡ []) × Restores strays u q) (after_all done t) (undo-parts strays own t q leads.covers done left (subst (λ (ops : List Op). IsDone ops done left) (sym ops-are) h))

  pub lead-stops : (u : Tree) → StopLeaves t (undo_ops t journal backups) u → LeadsBack strays journal backups u q ⊎ Restores strays u q
  lead-stops u h = turned (λ v. Restores strays v q) u (undo-stops strays own t q leads.covers u (subst (λ (ops : List Op). StopLeaves t ops u) (sym ops-are) h))
