-- What comes behind a transaction's publishing operation, and what undoes it, gives the list of filelogs no bytes.
use Rattle.std.proofs.Common.{◌≡◌, ℕ, List, [], ◌∷◌, ◌++◌, Bool, true, false, ◌==◌, cond, refl}
use Rattle.std.specs.Prelude.{map, reverse, is_some, unwrap_or}
use Rattle.std.specs.List.{AllByRecursion}
use Rattle.hgs_files.specs.declared.op.Op.TheVariants.{Cut, Remove}
use Rattle.hgs_files.specs.Tree.{Tree}
use Rattle.hgs_journal.specs.declared.backups.BackupLine.{BackupLine}
use Rattle.hgs_journal.specs.declared.journal.JournalLine.{JournalLine}
use Rattle.hgs_journal.specs.Names.{in_store, journal_path, new_name, place}
use Rattle.hgs_journal.specs.Undo.{undo_backup, undo_backups, undo_line, undo_list, undo_with}
use Rattle.hgs_model.specs.declared.command.Command.{Command}
use Rattle.hgs_model.specs.declared.command.Command.TheVariants.{Commit, Import, Mark, Move, Unmark}
use Rattle.hgs_model.specs.Step.{sets_bookmark}
use Rattle.hgs_model.specs.Repo.{Repo}
use Rattle.hgs_model.specs.Theorems.ListLemmas.{all-mapped}
use Rattle.hgs_ops.specs.Operations.{backups_of, journal_of, renames_after, transaction_of}
use Rattle.hgs_ops.specs.Replaced.{Replacement, backup_line_of, new_bookmarks, new_dirstate, new_rename, new_roots, only_if, replacements, roots_change, standing_file}
use Rattle.hgs_ops.specs.Theorems.Touch.{all-append, and-both}
use Rattle.hgs_legal.specs.LegalLog.{through_removal}
use Rattle.hgs_legal.proofs.ListOps.{AreHarmless, is_away, is_harmless}

behind-harmless : (next : Repo) (marks : Bool) → AreHarmless (new_rename (new_dirstate next) ∷ only_if marks (new_rename (new_bookmarks next)))
behind-harmless next true = refl
behind-harmless next false = refl

renames-harmless : (command : Command) (next : Repo) → AreHarmless (renames_after command next)
renames-harmless (Commit n) next = behind-harmless next (is_some n.bookmark)
renames-harmless (Import changes) next = behind-harmless next (sets_bookmark changes)
renames-harmless (Move rev phase force) next = refl
renames-harmless (Mark name rev) next = refl
renames-harmless (Unmark name) next = refl

pub settles : (t : Tree) (r : Repo) (command : Command) (who : List ℕ) (next : Repo) → AreHarmless (through_removal (transaction_of t r command who next))
settles t r command who next = all-append is_harmless (renames_after command next) (Remove journal_path ∷ []) (renames-harmless command next) refl

-- ---- undoing

abbrev IsAwayFile : BackupLine → Type 0
IsAwayFile l = (is_away (place l.plain (new_name l.file)) ≡ true) × (is_away (place l.plain l.file) ≡ true)

lines-harmless : (lines : List JournalLine) → AreHarmless (map undo_line lines)
lines-harmless [] = refl
lines-harmless (l ∷ lines) = and-both _ _ (one (l.offset == 0)) (lines-harmless lines)
  where
    one : (b : Bool) → is_harmless (cond b (Remove (in_store l.name)) (Cut (in_store l.name) l.offset)) ≡ true
    one true = refl
    one false = refl

with-harmless : (l : BackupLine) (kept backup : List ℕ) → IsAwayFile l → AreHarmless (undo_with l backup kept)
with-harmless l kept [] away = refl
with-harmless l kept (b ∷ backup) away = and-both _ _ away.0 (and-both _ _ away.1 refl)

backups-harmless : (lines : List BackupLine) (kept : List (List ℕ)) → AllByRecursion IsAwayFile lines → AreHarmless (undo_backups lines kept)
backups-harmless [] kept all = refl
backups-harmless (l ∷ lines) [] all = refl
backups-harmless (l ∷ lines) (k ∷ kept) all = all-append is_harmless (undo_backup l k) (undo_backups lines kept) (with-harmless l k l.backup all.0) (backups-harmless lines kept all.1)

list-harmless : (journal : List JournalLine) (backups : List BackupLine) (kept : List (List ℕ)) → AllByRecursion IsAwayFile backups → AreHarmless (undo_list journal backups kept)
list-harmless journal backups kept all =
    all-append is_harmless (map undo_line (reverse journal) ++ undo_backups backups kept) (Remove journal_path ∷ [])
    (all-append is_harmless (map undo_line (reverse journal)) (undo_backups backups kept) (lines-harmless (reverse journal)) (backups-harmless backups kept all)) refl

small-both : (t : Tree) (next : Repo) (roots marks : Bool) → AllByRecursion (λ (x : Replacement). IsAwayFile (backup_line_of t x)) (only_if roots (new_roots next) ++ new_dirstate next ∷ only_if marks (new_bookmarks next))
small-both t next true true = ((refl, refl), ((refl, refl), ((refl, refl), tt)))
small-both t next true false = ((refl, refl), ((refl, refl), tt))
small-both t next false true = ((refl, refl), ((refl, refl), tt))
small-both t next false false = ((refl, refl), tt)

small : (t : Tree) (r : Repo) (command : Command) (next : Repo) → AllByRecursion (λ (x : Replacement). IsAwayFile (backup_line_of t x)) (replacements r command next)
small t r (Commit n) next = small-both t next (roots_change r next) (is_some n.bookmark)
small t r (Import changes) next = small-both t next (roots_change r next) (sets_bookmark changes)
small t r (Move rev phase force) next = ((refl, refl), tt)
small t r (Mark name rev) next = ((refl, refl), tt)
small t r (Unmark name) next = ((refl, refl), tt)

pub undoes : (t : Tree) (r : Repo) (command : Command) (who : List ℕ) (next : Repo) → AreHarmless (transaction_of t r command who next).undo
undoes t r command who next = list-harmless (journal_of t r command next) (backups_of t r command next) (map (λ x. unwrap_or (standing_file t x) []) (replacements r command next)) (all-mapped IsAwayFile (backup_line_of t) (replacements r command next) (small t r command next))
