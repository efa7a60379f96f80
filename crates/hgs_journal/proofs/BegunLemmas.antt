-- A journal that gets its name covers the tree before it.
use Rattle.std.proofs.Common.{◌≡◌, ◌⊎◌, ℕ, ◌≤◌, List, [], ◌∷◌, Bool, false, ◌||◌, length, take, refl, sym, ◌∙◌, ap, subst, inl, inr, arith, take_all}
use Rattle.std.specs.Prelude.{Option, Some, None, Ok, unwrap_or}
use Rattle.std.specs.List.{AllByRecursion, list_any}
use Rattle.hgs_bytes.specs.Bytes.{same}
use Rattle.hgs_bytes.specs.Theorems.ByteLemmas.{same-eq}
use Rattle.hgs_files.specs.declared.op.Op.TheVariants.{Rename}
use Rattle.hgs_files.specs.Tree.{Tree, apply, bytes_at, renamed, with_file}
use Rattle.hgs_files.specs.Theorems.TreeLemmas.{bytes_at-is, with_file-same}
use Rattle.hgs_journal.specs.declared.backups.BackupLine.{BackupLine}
use Rattle.hgs_journal.specs.declared.journal.JournalLine.{JournalLine}
use Rattle.hgs_journal.specs.Begun.{HasOffset, IsPrepared, LeadsBack, bytes_before}
use Rattle.hgs_journal.specs.Covers.{HasOwnStrays, KeepsBackup, KeepsFront, bytes_of_backup, is_loose, journal_paths, kept_bytes, undo_ops}
use Rattle.hgs_journal.specs.Names.{backup_name, backups_path, in_store, journal_path, new_journal_path, place}
use Rattle.hgs_journal.specs.Read.{read_backups, read_journal}
use Rattle.hgs_journal.specs.Texts.{IsBackupLine, backups_text, journal_text}
use Rattle.hgs_journal.specs.Undo.{undo_list}
use Rattle.hgs_journal.specs.Theorems.BackupText.{backups-found}
use Rattle.hgs_journal.specs.Theorems.BackupText.{written-back as backups-written}
use Rattle.hgs_journal.specs.Theorems.JournalText.{journal-found}
use Rattle.hgs_journal.specs.Theorems.JournalText.{written-back as journal-written}
use Rattle.hgs_journal.specs.Theorems.OwnNames.{AllOnes, IsOne, all-ones, new-journal-loose}
use Rattle.hgs_journal.specs.Theorems.OwnNames.IsOne.{phaseroots, dirstate, bookmarks}
use Rattle.hgs_journal.specs.Theorems.TreeFacts.{away, bool, never, same-sym}
use Rattle.hgs_journal.specs.Theorems.Touched.{or-left, or-right}
use Rattle.hgs_journal.specs.Theorems.UndoStops.{named-read}

-- ---- lines of a list that lead back are in form

named-good : (p : Bool) (x : List ℕ) → IsOne p x → IsBackupLine (record { plain = p; file = x; backup = backup_name x })
named-good p x phaseroots = record { file = refl; new = refl; backup = refl }
named-good p x dirstate = record { file = refl; new = refl; backup = refl }
named-good p x bookmarks = record { file = refl; new = refl; backup = refl }

bare-good : (p : Bool) (x : List ℕ) → IsOne p x → IsBackupLine (record { plain = p; file = x; backup = [] })
bare-good p x phaseroots = record { file = refl; new = refl; backup = refl }
bare-good p x dirstate = record { file = refl; new = refl; backup = refl }
bare-good p x bookmarks = record { file = refl; new = refl; backup = refl }

line-good : (q u : Tree) (l : BackupLine) → IsOne l.plain l.file → KeepsBackup u q l → IsBackupLine l
line-good q u l one (inl (b, bytes, stands, before)) = subst (λ c. IsBackupLine (record { plain = l.plain; file = l.file; backup = c })) (sym b) (named-good l.plain l.file one)
line-good q u l one (inr (b, before)) = subst (λ c. IsBackupLine (record { plain = l.plain; file = l.file; backup = c })) (sym b) (bare-good l.plain l.file one)

lines-good : (q u : Tree) (ls : List BackupLine) → AllOnes ls → AllByRecursion (KeepsBackup u q) ls → AllByRecursion IsBackupLine ls
lines-good q u [] ones all = tt
lines-good q u (l ∷ ls) ones all = (line-good q u l ones.0 all.0, lines-good q u ls ones.1 all.1)

-- ---- a file that is as it was keeps its front

front-of : (q u : Tree) (p : List ℕ) (len : ℕ) → u p ≡ q p → len ≡ length (bytes_at q p) → ((len ≤ length (bytes_at u p)) × (q p ≡ Some (take len (bytes_at u p)))) ⊎ ((len ≡ 0) × (q p ≡ None))
front-of q u p len same_file e = by (q p) refl
  where
    by : (o : Option (List ℕ)) → q p ≡ o → ((len ≤ length (bytes_at u p)) × (q p ≡ Some (take len (bytes_at u p)))) ⊎ ((len ≡ 0) × (q p ≡ None))
    by None h = inr (e ∙ ap (λ (o : Option (List ℕ)). length (unwrap_or o [])) h, h)
    by (Some b) h =
        let here : bytes_at u p ≡ b = ap (λ (o : Option (List ℕ)). unwrap_or o []) (same_file ∙ h) in
        let size : len ≡ length b = e ∙ ap (λ (o : Option (List ℕ)). length (unwrap_or o [])) h in
        inl (omega (arith, size, ap length here), h ∙ sym (ap (λ n. Some (take n (bytes_at u p))) size ∙ ap (λ z. Some (take (length b) z)) here ∙ ap Some (take_all (length b) b (omega arith))))

-- a backup is neither the journal nor that before it gets its name
record IsApart (p : List ℕ) : Type 0 where
  journal : same journal_path p ≡ false
  new : same new_journal_path p ≡ false

own-apart : (p : Bool) (x : List ℕ) → IsOne p x → IsApart (place p (backup_name x))
own-apart p x phaseroots = record { journal = refl; new = refl }
own-apart p x dirstate = record { journal = refl; new = refl }
own-apart p x bookmarks = record { journal = refl; new = refl }

module _ (strays : List (List ℕ)) (own : HasOwnStrays strays) (journal : List JournalLine) (backups : List BackupLine) (t q : Tree) (ready : IsPrepared strays journal backups t q) where
  abbrev text : List ℕ
  text = journal_text journal

  -- the tree in which the journal has its name
  abbrev begun : Tree
  begun = apply (Rename new_journal_path journal_path) t

  abbrev named : Tree
  named = with_file (with_file t new_journal_path None) journal_path (Some text)

  begun-is : begun ≡ named
  begun-is = ap (renamed t new_journal_path journal_path) ready.text_stands

  begun-away : (path : List ℕ) → IsApart path → begun path ≡ t path
  begun-away path apart =
      ap (λ (u : Tree). u path) begun-is ∙ away (with_file t new_journal_path None) journal_path path (Some text) apart.journal ∙ away t new_journal_path path None apart.new

  ones : AllOnes backups
  ones = all-ones backups ready.replaced

  not-new : (path : List ℕ) → is_loose strays path ≡ false → same new_journal_path path ≡ false
  not-new path free = elim (bool (same new_journal_path path)) [
    | inl e ↦ never (sym (new-journal-loose strays own) ∙ ap (is_loose strays) (same-eq new_journal_path path e) ∙ free)
    | inr e ↦ e
  ]

  begun-same : (path : List ℕ) → (is_loose strays path || same path journal_path) ≡ false → begun path ≡ q path
  begun-same path e = begun-away path (record { journal = same-sym path journal_path (or-right (is_loose strays path) _ e); new = not-new path (or-left _ _ e) }) ∙ ready.others path e

  begun-fronts : AllByRecursion (KeepsFront begun q) journal
  begun-fronts = each journal ready.apart ready.offsets
    where
      each : (ls : List JournalLine) → list_any (λ path. is_loose strays path || same path journal_path) (journal_paths ls) ≡ false → AllByRecursion (HasOffset q) ls → AllByRecursion (KeepsFront begun q) ls
      each [] e all = tt
      each (l ∷ ls) e all = (front-of q begun (in_store l.name) l.offset (begun-same (in_store l.name) (or-left _ _ e)) all.0, each ls (or-right (is_loose strays (in_store l.name) || same (in_store l.name) journal_path) _ e) all.1)

  begun-kept : AllByRecursion (KeepsBackup begun q) backups
  begun-kept = each backups ones ready.kept
    where
      one : (l : BackupLine) → IsOne l.plain l.file → KeepsBackup t q l → KeepsBackup begun q l
      one l is (inl (b, rest, stands, before)) =
          inl (b, rest, begun-away (place l.plain l.backup) (subst (λ x. IsApart (place l.plain x)) (sym b) (own-apart l.plain l.file is)) ∙ stands, before)
      one l is (inr none) = inr none

      each : (ls : List BackupLine) → AllOnes ls → AllByRecursion (KeepsBackup t q) ls → AllByRecursion (KeepsBackup begun q) ls
      each [] os all = tt
      each (l ∷ ls) os all = (one l os.0 all.0, each ls os.1 all.1)

  begun-list : begun backups_path ≡ Some (backups_text backups)
  begun-list = begun-away backups_path (record { journal = refl; new = refl }) ∙ ready.list_stands

  begun-stands : begun journal_path ≡ Some text
  begun-stands = ap (λ (u : Tree). u journal_path) begun-is ∙ with_file-same (with_file t new_journal_path None) journal_path (Some text)

  list-read : read_backups (backups_text backups) ≡ Ok backups
  list-read = backups-written backups (lines-good q t backups ones ready.kept)

  journal-read : read_journal text ≡ Ok journal
  journal-read = journal-written journal ready.lines

  -- a journal that has its name leads back
  pub named-leads : LeadsBack strays journal backups (apply (Rename new_journal_path journal_path) t) q
  named-leads = record {
    covers = record {
      journal = journal;
      journal_bytes = text;
      journal_stands = begun-stands;
      journal_text = journal-found text journal journal-read;
      backups = backups;
      backups_bytes = backups_text backups;
      backups_stand = begun-list;
      backups_text = backups-found (backups_text backups) backups list-read;
      apart = ready.apart;
      replaced = ready.replaced;
      once = ready.once;
      fronts = begun-fronts;
      kept = begun-kept;
      others = λ path e. begun-same path (or-left _ _ (or-left _ _ e));
      undone = ready.undone;
    };
    reads = record {
      journal_read = ap read_journal (bytes_at-is begun journal_path text begun-stands) ∙ journal-read;
      backups_read = ap read_backups (bytes_at-is begun backups_path (backups_text backups) begun-list) ∙ list-read;
    };
  }

-- ---- the bytes that a writer kept are those of the backups

one-same : (u q : Tree) (l : BackupLine) → KeepsBackup u q l → bytes_of_backup u l l.backup ≡ bytes_at q (place l.plain l.file)
one-same u q l (inl (e, bytes, stands, before)) =
    ap (bytes_of_backup u l) e ∙ ap (λ b. bytes_at u (place l.plain b)) (sym e) ∙ ap (λ (o : Option (List ℕ)). unwrap_or o []) stands ∙ sym (ap (λ (o : Option (List ℕ)). unwrap_or o []) before)
one-same u q l (inr (e, before)) = ap (bytes_of_backup u l) e ∙ sym (ap (λ (o : Option (List ℕ)). unwrap_or o []) before)

kept-same : (u q : Tree) (ls : List BackupLine) → AllByRecursion (KeepsBackup u q) ls → kept_bytes u ls ≡ bytes_before q ls
kept-same u q [] all = refl
kept-same u q (l ∷ ls) all = λ i. one-same u q l all.0 i ∷ kept-same u q ls all.1 i

pub undo-same : (strays : List (List ℕ)) (journal : List JournalLine) (backups : List BackupLine) (u q : Tree) → LeadsBack strays journal backups u q → undo_ops u journal backups ≡ undo_list journal backups (bytes_before q backups)
undo-same strays journal backups u q h =
    ap (undo_list journal backups) (kept-same u q backups (subst (AllByRecursion (KeepsBackup u q)) (named-read strays u q h.covers journal backups h.reads).1 h.covers.kept))
