-- What the crates below say of transactions, of journals and of trees that stand, as their laws say it.
use Rattle.std.specs.Prelude.{◌≡◌, ◌⊎◌, ◌++◌, ◌∷◌, ℕ, List, [], false, Ok, if◌then◌else◌}
use Rattle.hgs_bytes.specs.Bytes.{among}
use Rattle.hgs_files.specs.declared.op.Op.{Op}
use Rattle.hgs_files.specs.declared.op.Op.TheVariants.{Remove}
use Rattle.hgs_files.specs.Log.{IsDone}
use Rattle.hgs_files.specs.Tree.{Tree, after_all, apply}
use Rattle.hgs_journal.specs.declared.backups.BackupLine.{BackupLine}
use Rattle.hgs_journal.specs.declared.journal.JournalLine.{JournalLine}
use Rattle.hgs_journal.specs.Begun.{LeadsBack}
use Rattle.hgs_journal.specs.Covers.{Covers, HasOwnStrays, Restores, is_loose, undo_ops}
use Rattle.hgs_journal.specs.Names.{journal_path, locks}
use Rattle.hgs_model.specs.declared.command.Command.{Command}
use Rattle.hgs_model.specs.Repo.{Repo}
use Rattle.hgs_model.specs.Step.{Answer, step}
use Rattle.hgs_model.specs.Valid.{IsValid}
use Rattle.hgs_stands.specs.Open.{IsOpen}
use Rattle.hgs_stands.specs.Same.{AreStrays}
use Rattle.hgs_stands.specs.Shows.{Shows}
use Rattle.hgs_stands.specs.Stands.{Stands}
use Rattle.hgs_ops.specs.Operations.{removals, strays, transaction_of}
use Rattle.hgs_ops.specs.Shown.{lacks_bookmarks, lacks_dirstate}
use Rattle.hgs_ops.specs.Unhindered.{IsReady}

pub record Below : Type 0 where
  -- a transaction's stops and its undoing
  pub before : (t : Tree) (r next : Repo) (command : Command) (who : List ℕ) → Stands t r → IsReady t r command next → (done left : List Op) → IsDone (transaction_of t r command who next).before done left → Stands (after_all done t) r
  pub kept : (t : Tree) (r next : Repo) (command : Command) (who : List ℕ) → Stands t r → IsReady t r command next → (done left : List Op) → IsDone ((transaction_of t r command who next).changes ++ (transaction_of t r command who next).publish ∷ (transaction_of t r command who next).renames) done left → IsOpen strays (after_all done (apply (transaction_of t r command who next).journal (after_all (transaction_of t r command who next).before t))) r
  pub removed : (t : Tree) (r next : Repo) (command : Command) (who : List ℕ) (answer : Answer) → Stands t r → IsValid command → step r command ≡ Ok (next, answer) → IsReady t r command next → (done left : List Op) → IsDone removals done left → Stands (after_all done (apply (Remove journal_path) (after_all ((transaction_of t r command who next).changes ++ (transaction_of t r command who next).publish ∷ (transaction_of t r command who next).renames) (apply (transaction_of t r command who next).journal (after_all (transaction_of t r command who next).before t))))) next
  pub stops : (t : Tree) (r next : Repo) (command : Command) (who : List ℕ) → Stands t r → IsReady t r command next → (done left : List Op) → IsDone ((transaction_of t r command who next).changes ++ (transaction_of t r command who next).publish ∷ (transaction_of t r command who next).renames) done left → (undone rest : List Op) → IsDone (transaction_of t r command who next).undo undone rest → IsOpen strays (after_all undone (after_all done (apply (transaction_of t r command who next).journal (after_all (transaction_of t r command who next).before t)))) r ⊎ ((rest ≡ []) × Stands (after_all undone (after_all done (apply (transaction_of t r command who next).journal (after_all (transaction_of t r command who next).before t)))) r)
  -- what it shows
  pub working_shows : (t : Tree) (r next : Repo) (command : Command) (who : List ℕ) (answer : Answer) → Stands t r → IsValid command → step r command ≡ Ok (next, answer) → IsReady t r command next → (done : List Op) (op : Op) (left : List Op) → IsDone ((transaction_of t r command who next).changes ++ (transaction_of t r command who next).publish ∷ []) done (op ∷ left) → Shows (after_all done (apply (transaction_of t r command who next).journal (after_all (transaction_of t r command who next).before t))) r r r
  pub undone_shows : (t : Tree) (r next : Repo) (command : Command) (who : List ℕ) (answer : Answer) → Stands t r → IsValid command → step r command ≡ Ok (next, answer) → IsReady t r command next → (done : List Op) (op : Op) (left : List Op) → IsDone ((transaction_of t r command who next).changes ++ (transaction_of t r command who next).publish ∷ []) done (op ∷ left) → (undone rest : List Op) → IsDone (transaction_of t r command who next).undo undone rest → Shows (after_all undone (after_all done (apply (transaction_of t r command who next).journal (after_all (transaction_of t r command who next).before t)))) r r r
  pub settled_shows : (t : Tree) (r next : Repo) (command : Command) (who : List ℕ) (answer : Answer) → Stands t r → IsValid command → step r command ≡ Ok (next, answer) → IsReady t r command next → (done : List Op) (op : Op) (left : List Op) → IsDone ((transaction_of t r command who next).renames ++ Remove journal_path ∷ []) done (op ∷ left) → Shows (after_all done (after_all ((transaction_of t r command who next).changes ++ (transaction_of t r command who next).publish ∷ []) (apply (transaction_of t r command who next).journal (after_all (transaction_of t r command who next).before t)))) (if lacks_bookmarks (op ∷ left) then r else next) (if lacks_dirstate (op ∷ left) then r else next) next
  pub loose_shows : (t u : Tree) (marked worked r : Repo) → ((path : List ℕ) → is_loose strays path ≡ false → u path ≡ t path) → Shows t marked worked r → Shows u marked worked r
  -- journals
  pub locks_kept : (strays : List (List ℕ)) (t u q : Tree) (journal : List JournalLine) (backups : List BackupLine) → LeadsBack strays journal backups t q → ((path : List ℕ) → among path locks ≡ false → u path ≡ t path) → LeadsBack strays journal backups u q
  pub read : (strays : List (List ℕ)) (t q : Tree) → Covers strays t q → (journal : List JournalLine) × (backups : List BackupLine) × LeadsBack strays journal backups t q
  pub leads : (strays : List (List ℕ)) (t q : Tree) (journal : List JournalLine) (backups : List BackupLine) → HasOwnStrays strays → LeadsBack strays journal backups t q → Restores strays (after_all (undo_ops t journal backups) t) q
  pub parts : (strays : List (List ℕ)) (t q : Tree) (journal : List JournalLine) (backups : List BackupLine) (done left : List Op) → HasOwnStrays strays → LeadsBack strays journal backups t q → IsDone (undo_ops t journal backups) done left → LeadsBack strays journal backups (after_all done t) q ⊎ ((left ≡ []) × Restores strays (after_all done t) q)
  -- trees that stand
  pub loose : (strays : List (List ℕ)) (t u : Tree) (r : Repo) → AreStrays strays → ((path : List ℕ) → is_loose strays path ≡ false → u path ≡ t path) → Stands t r → Stands u r
  pub restored : (strays : List (List ℕ)) (u q : Tree) (r : Repo) → AreStrays strays → Restores strays u q → Stands q r → Stands u r
  pub shows : (t : Tree) (r : Repo) → Stands t r → Shows t r r r
