-- What is gathered of changes while a transaction is put together.
use Rattle.std.specs.Prelude.{◌≡◌, ◌+◌, ℕ, List, [], ◌∷◌, ◌++◌, length, map}
use Rattle.hgs_files.specs.declared.op.Op.{Op}
use Rattle.hgs_files.specs.declared.op.Op.TheVariants.{Create, Remove, Rename}
use Rattle.hgs_journal.specs.declared.backups.BackupLine.{BackupLine}
use Rattle.hgs_journal.specs.Names.{backups_path, journal_path, place, new_journal_path}
use Rattle.hgs_journal.specs.Texts.{backups_text, journal_text}
use Rattle.hgs_journal.specs.Undo.{undo_list}
use Rattle.hgs_ops.specs.Operations.{removals}
use Rattle.hgs_ops.specs.Replaced.{new_put}
use Rattle.hgs_transaction.specs.declared.assemble.Plan.{Plan}
use Rattle.hgs_transaction.specs.declared.gathered.Gathered.{Gathered}
use Rattle.hgs_transaction.specs.declared.parts.Change.{Change}
use Rattle.hgs_transaction.specs.Parts.{backup_of, change_op, kept_of, lines_of, replacement_of, replacings_of}

-- nothing is gathered
pub record IsEmpty (g : Gathered) : Type 0 where
  pub journal : g.journal.items ≡ []
  pub backups : g.backups.items ≡ []
  pub kept : g.kept.items ≡ []
  pub texts : g.texts.items ≡ []
  pub ops : g.ops.items ≡ []

-- these changes were added behind those before
pub record Adds (old new : Gathered) (changes : List Change) : Type 0 where
  pub journal : new.journal.items ≡ old.journal.items ++ lines_of changes
  pub backups : new.backups.items ≡ old.backups.items ++ map backup_of (replacings_of changes)
  pub kept : new.kept.items ≡ old.kept.items ++ map kept_of (replacings_of changes)
  pub texts : new.texts.items ≡ old.texts.items ++ map (λ x. new_put (replacement_of x)) (replacings_of changes)
  pub ops : new.ops.items ≡ old.ops.items ++ map change_op changes

-- just these changes are gathered
pub record Holds (g : Gathered) (changes : List Change) : Type 0 where
  pub journal : g.journal.items ≡ lines_of changes
  pub backups : g.backups.items ≡ map backup_of (replacings_of changes)
  pub kept : g.kept.items ≡ map kept_of (replacings_of changes)
  pub texts : g.texts.items ≡ map (λ x. new_put (replacement_of x)) (replacings_of changes)
  pub ops : g.ops.items ≡ map change_op changes

-- the backup of a line, none where the file is absent
abbrev pub put_with : BackupLine → List ℕ → List ℕ → List Op
put_with l [] bytes = []
put_with l (b ∷ backup) bytes = Create (place l.plain (b ∷ backup)) bytes ∷ []

-- the backups of lines, whose bytes these are
abbrev pub backup_puts : List BackupLine → List (List ℕ) → List Op
backup_puts [] kept = []
backup_puts (l ∷ lines) [] = []
backup_puts (l ∷ lines) (bytes ∷ kept) = put_with l l.backup bytes ++ backup_puts lines kept

-- what is done before the changes
abbrev pub prepared : Gathered → List Op
prepared g =
    (backup_puts g.backups.items g.kept.items ++ g.texts.items)
    ++ Create backups_path (backups_text g.backups.items) ∷ Create new_journal_path (journal_text g.journal.items) ∷ Rename new_journal_path journal_path ∷ []

-- the plan of what was gathered, published behind so many changes by an append to a file of so many bytes, or by a rename
pub record IsPlanFrom (g : Gathered) (published was : ℕ) (plan : Plan) : Type 0 where
  pub ops : plan.ops.items ≡ (prepared g ++ g.ops.items) ++ Remove journal_path ∷ removals
  pub undo : plan.undo.items ≡ undo_list g.journal.items g.backups.items g.kept.items
  pub journal : plan.journal + 1 ≡ length (prepared g)
  pub publish : plan.publish ≡ length (prepared g) + published
  pub commit : plan.commit ≡ length (prepared g ++ g.ops.items)
  pub before : plan.before ≡ was
