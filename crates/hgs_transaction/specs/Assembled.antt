-- The operations of a transaction that is put together of parts, and those that undo it.
use Rattle.std.specs.Prelude.{◌≡◌, ◌+◌, List, [], ◌∷◌, ◌++◌, length, map, flat_map}
use Rattle.hgs_files.specs.declared.op.Op.{Op}
use Rattle.hgs_files.specs.declared.op.Op.TheVariants.{Create, Remove, Rename}
use Rattle.hgs_journal.specs.Names.{backups_path, journal_path, new_journal_path}
use Rattle.hgs_journal.specs.Texts.{backups_text, journal_text}
use Rattle.hgs_journal.specs.Undo.{undo_list}
use Rattle.hgs_ops.specs.Operations.{removals}
use Rattle.hgs_ops.specs.Replaced.{backup_put, new_put}
use Rattle.hgs_transaction.specs.declared.assemble.Plan.{Plan}
use Rattle.hgs_transaction.specs.declared.parts.Parts.{Parts}
use Rattle.hgs_transaction.specs.declared.parts.Replacing.{Replacing}
use Rattle.hgs_transaction.specs.Parts.{all_changes, backup_of, change_op, kept_of, length_before, lines_of, replacement_of, replacings_of}

-- the backups of the files that stand, and all new texts
abbrev pub texts_put : List Replacing → List Op
texts_put files = flat_map (λ x. backup_put (replacement_of x) x.standing) files ++ map (λ x. new_put (replacement_of x)) files

-- backups, new texts, the list of backups, the journal's text, and the rename that gives the journal its name
abbrev pub preparing : Parts → List Op
preparing p =
    texts_put (replacings_of (all_changes p))
    ++ Create backups_path (backups_text (map backup_of (replacings_of (all_changes p))))
    ∷ Create new_journal_path (journal_text (lines_of (all_changes p))) ∷ Rename new_journal_path journal_path ∷ []

-- what is done before the publishing operation
abbrev pub before_publishing : Parts → List Op
before_publishing p = preparing p ++ map change_op p.before

-- what is done before the journal is removed
abbrev pub before_commit : Parts → List Op
before_commit p = preparing p ++ map change_op (all_changes p)

-- all operations behind the making of the locks
abbrev pub ops_of : Parts → List Op
ops_of p = before_commit p ++ Remove journal_path ∷ removals

abbrev pub undo_of : Parts → List Op
undo_of p =
    undo_list (lines_of (all_changes p)) (map backup_of (replacings_of (all_changes p))) (map kept_of (replacings_of (all_changes p)))

-- The plan of these parts: its operations, those that undo it, the places of the rename that gives the journal its name, which
-- is the last of what is prepared, of the publishing operation and of the journal's removal, and the length before of the file that is published.
pub record IsPlanOf (p : Parts) (plan : Plan) : Type 0 where
  pub ops : plan.ops.items ≡ ops_of p
  pub undo : plan.undo.items ≡ undo_of p
  pub journal : plan.journal + 1 ≡ length (preparing p)
  pub publish : plan.publish ≡ length (before_publishing p)
  pub commit : plan.commit ≡ length (before_commit p)
  pub before : plan.before ≡ length_before p.publishing
