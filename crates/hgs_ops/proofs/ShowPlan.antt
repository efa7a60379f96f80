-- What is shown while a transaction is at work and while it is undone.
use Rattle.std.proofs.Common.{◌≡◌, ℕ, List, [], ◌∷◌, ◌++◌, false, map, refl, ◌∙◌, ap, subst, inl, inr, append_assoc}
use Rattle.hgs_bytes.specs.Bytes.{same}
use Rattle.hgs_files.specs.declared.op.Op.{Op}
use Rattle.hgs_files.specs.declared.op.Op.TheVariants.{Rename}
use Rattle.hgs_files.specs.Log.{IsDone}
use Rattle.hgs_files.specs.Tree.{Tree, after_all, apply, bytes_at}
use Rattle.hgs_files.specs.Theorems.LogLemmas.{done-behind}
use Rattle.hgs_journal.specs.Covers.{is_loose}
use Rattle.hgs_journal.specs.Names.{journal_path, new_journal_path}
use Rattle.hgs_journal.specs.Texts.{journal_text}
use Rattle.hgs_journal.specs.Undo.{undo_list}
use Rattle.hgs_model.specs.Repo.{Repo}
use Rattle.hgs_stands.specs.Places.{bookmarks_path, changelog_index, dirstate_path, roots_path}
use Rattle.hgs_stands.specs.Shows.{Shows}
use Rattle.hgs_stands.specs.Stands.{Stands}
use Rattle.hgs_stands.specs.Theorems.ShowsLemmas.{stands-shows}
use Rattle.hgs_ops.specs.Operations.{journal_lines, preparations, strays}
use Rattle.hgs_ops.specs.Replaced.{Replacement, backup_line_of}
use Rattle.hgs_ops.proofs.BeginsLemmas.{IsStill, still-either, still-own, still-shows}
use Rattle.hgs_ops.proofs.Below.{Below}
use Rattle.hgs_ops.proofs.JournalLemmas.{prep-stays}
use Rattle.hgs_ops.proofs.Plan.{IsPlan, changes-lead-back, old_bytes, undo-files, undo-lead}
use Rattle.hgs_ops.specs.Theorems.Touch.{apply-other, bool, bytes-same, never, or-both, same-sym}
use Rattle.hgs_bytes.specs.Theorems.ByteLemmas.{same-eq}

module _ (below : Below) (t : Tree) (who : List ℕ) (files : List Replacement) (named changes : List Op) (publish : Op) (renames : List Op) (plan : IsPlan t files named changes publish renames) (r : Repo) (s : Stands t r) where
  abbrev text : List ℕ
  text = journal_text (journal_lines t named)

  abbrev t0 : Tree
  t0 = after_all (preparations t who files (map (backup_line_of t) files) text) t

  abbrev t1 : Tree
  t1 = apply (Rename new_journal_path journal_path) t0

  abbrev undo : List Op
  undo = undo_list (journal_lines t named) (map (backup_line_of t) files) (old_bytes t files)

  -- with its journal the tree has the other files of the one before
  pub begun-same : (p : List ℕ) → is_loose strays p ≡ false → same p journal_path ≡ false → t1 p ≡ t p
  begun-same p free off = apply-other (Rename new_journal_path journal_path) t0 p (or-both _ _ (not-new p free) (same-sym p journal_path off)) ∙ prep-stays t who files plan.ones plan.once text p (or-both _ _ free off)
    where
      not-new : (p : List ℕ) → is_loose strays p ≡ false → same new_journal_path p ≡ false
      not-new p free = elim (bool (same new_journal_path p)) [
        | inl e ↦ never (ap (is_loose strays) (same-eq new_journal_path p e) ∙ free)
        | inr e ↦ e
      ]

  pub begun-still : IsStill r t t1
  begun-still = still-own r t t1 s (same_bytes changelog_index refl refl) (same_bytes roots_path refl refl) (same_bytes bookmarks_path refl refl) (same_bytes dirstate_path refl refl)
    where
      same_bytes : (p : List ℕ) → is_loose strays p ≡ false → same p journal_path ≡ false → bytes_at t1 p ≡ bytes_at t p
      same_bytes p free off = bytes-same t t1 p (begun-same p free off)

  module _ (still : (done : List Op) (o : Op) (l : List Op) → IsDone (changes ++ publish ∷ []) done (o ∷ l) → IsStill r t (after_all done t1)) (done : List Op) (o : Op) (l : List Op) (h : IsDone (changes ++ publish ∷ []) done (o ∷ l)) where
    onward : IsDone (changes ++ publish ∷ renames) done ((o ∷ l) ++ renames)
    onward = subst (λ (x : List Op). IsDone x done ((o ∷ l) ++ renames)) (append_assoc changes (publish ∷ []) renames) (done-behind (changes ++ publish ∷ []) renames done (o ∷ l) h)

    -- before the publishing operation is whole
    pub working-shows : Shows (after_all done t1) r r r
    working-shows = still-shows t (after_all done t1) r s (changes-lead-back below t who files named changes publish renames plan r s done ((o ∷ l) ++ renames) onward).covers (still done o l h)

    -- and while it is undone
    pub undoing-shows : (log rest : List Op) → IsDone undo log rest → Shows (after_all log (after_all done t1)) r r r
    undoing-shows log rest k = elim (undo-lead below t who files named changes publish renames plan r s done ((o ∷ l) ++ renames) onward log rest k) [
      | inr ends ↦ stands-shows (after_all log (after_all done t1)) r ends.1
      | inl lead ↦
          let each = undo-files below t who files named changes publish renames plan r s done ((o ∷ l) ++ renames) onward log rest k in
          still-shows t (after_all log (after_all done t1)) r s lead.covers
          (still-either r t (after_all done t1) (after_all log (after_all done t1)) s (still done o l h) (each changelog_index refl refl) (each roots_path refl refl) (each bookmarks_path refl refl) (each dirstate_path refl refl))
    ]
