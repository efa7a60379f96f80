-- A second commit meets what the laws ask.
use Rattle.std.proofs.Common.{ℕ, ◌<◌, List, true, refl, subst, inl, inr, arith}
use Rattle.std.specs.Prelude.{◌^◌, codes}
use Rattle.std.specs.List.{AllByRecursion}
use Rattle.hgs_bytes.specs.Bytes.{same}
use Rattle.hgs_files.specs.declared.op.Op.{Op}
use Rattle.hgs_files.specs.declared.op.Op.TheVariants.{Rename}
use Rattle.hgs_files.specs.Log.{IsDone}
use Rattle.hgs_files.specs.Tree.{Tree, after_all, apply}
use Rattle.hgs_journal.specs.Begun.{IsAllowed, IsPrepared, LeadsBack, bytes_before}
use Rattle.hgs_journal.specs.Covers.{Restores, is_loose}
use Rattle.hgs_journal.specs.Names.{journal_path, new_journal_path}
use Rattle.hgs_journal.specs.Samples.{one_changeset, second_backups, second_changes, second_journal, second_prepared, second_puts, second_strays, zeros}
use Rattle.hgs_journal.specs.Undo.{undo_list}
use Rattle.hgs_journal.proofs.BegunLemmas.{named-leads, undo-same}
use Rattle.hgs_journal.proofs.LeadLemmas.{lead-restores}
use Rattle.hgs_journal.proofs.Steps.{done-kept}
use Rattle.hgs_journal.specs.Theorems.Touched.{or-left, touched-within, untouched}

small : (n : ℕ) → n < 100 → n < 2 ^ 64
small n h = omega (arith, h)

pub prepared : IsPrepared second_strays second_journal second_backups second_prepared one_changeset
prepared = record {
  lines = (
    record { path = refl; offset = omega arith },
    (
      record { path = refl; offset = omega arith },
      (
        record { path = refl; offset = omega arith },
        (
          record { path = refl; offset = omega arith },
          (
            record { path = refl; offset = omega arith },
            (
              record { path = refl; offset = omega arith },
              (record { path = refl; offset = omega arith }, tt),
            ),
          ),
        ),
      ),
    ),
  );
  offsets = (refl, (refl, (refl, (refl, (refl, (refl, (refl, tt)))))));
  apart = refl;
  unnamed = refl;
  text_stands = refl;
  list_stands = refl;
  replaced = refl;
  once = refl;
  kept = (inl (refl, zeros 58, refl, refl), (inr (refl, refl), tt));
  others = λ path e. untouched second_puts one_changeset path (touched-within (is_loose second_strays) second_puts path refl (or-left (is_loose second_strays path) (same path journal_path) e));
  undone = refl;
}

pub allowed : AllByRecursion (IsAllowed second_journal second_backups) second_changes
allowed = (refl, (refl, (refl, (refl, (refl, (refl, (refl, ((true, codes "dirstate", refl, refl, refl, refl, refl), ((true, codes "bookmarks", refl, refl, refl, refl, refl), tt)))))))))

abbrev begun : Tree
begun = apply (Rename new_journal_path journal_path) second_prepared

pub leads : (done left : List Op) → IsDone second_changes done left → LeadsBack second_strays second_journal second_backups (after_all done begun) one_changeset
leads done left h = done-kept second_strays refl one_changeset second_journal second_backups second_changes done left begun h allowed (named-leads second_strays refl second_journal second_backups second_prepared one_changeset prepared)

pub undone : (done left : List Op) → IsDone second_changes done left → Restores second_strays (after_all (undo_list second_journal second_backups (bytes_before one_changeset second_backups)) (after_all done begun)) one_changeset
undone done left h =
    let there = leads done left h in
    subst (λ (ops : List Op). Restores second_strays (after_all ops (after_all done begun)) one_changeset) (undo-same second_strays second_journal second_backups (after_all done begun) one_changeset there)
    (lead-restores second_strays refl second_journal second_backups (after_all done begun) one_changeset there)
