-- The preparations of a transaction are what a journal of its operations asks for.
use Rattle.std.proofs.Common.{◌≡◌, ℕ, ◌<◌, List, [], ◌∷◌, ◌++◌, Bool, true, false, cond, ◌||◌, not, length, drop, map, refl, sym, ◌∙◌, ap, inl, inr}
use Rattle.std.specs.Prelude.{◌^◌, Option, Some, None, flat_map, is_some}
use Rattle.std.specs.List.{AllByRecursion, list_all, list_any}
use Rattle.hgs_bytes.specs.Bytes.{same, among}
use Rattle.hgs_bytes.specs.Theorems.ByteLemmas.{same-refl}
use Rattle.hgs_files.specs.declared.op.Op.{Op}
use Rattle.hgs_files.specs.declared.op.Op.TheVariants.{Append, Cut, Rename, Remove, Create, Sync, Settle}
use Rattle.hgs_files.specs.Path.{is_store_path}
use Rattle.hgs_files.specs.Tree.{Tree, after_all, apply, bytes_at}
use Rattle.hgs_files.specs.Theorems.TreeLemmas.{after_all-append, with_file-same}
use Rattle.hgs_journal.specs.declared.backups.BackupLine.{BackupLine}
use Rattle.hgs_journal.specs.Begun.{HasOffset}
use Rattle.hgs_journal.specs.Covers.{KeepsBackup, backup_places, is_loose, journal_paths, no_repeat}
use Rattle.hgs_journal.specs.Names.{backup_name, backups_path, in_store, is_replaced, journal_path, new_name, place, new_journal_path}
use Rattle.hgs_journal.specs.Texts.{IsJournalLine, backups_text}
use Rattle.hgs_stands.specs.Places.{bookmarks_path, dirstate_path, roots_path}
use Rattle.hgs_ops.specs.Operations.{journal_lines, lock_path, preparations, strays, wlock_path}
use Rattle.hgs_ops.specs.Replaced.{Replacement, backup_line_of, backup_put, new_put, standing_file}
use Rattle.hgs_ops.proofs.SmallFiles.{apart, backups-apart, is-one, list-apart, names-loose, new-backup, IsOne}
use Rattle.hgs_ops.specs.Theorems.Touch.{and-both, and-left, and-right, apply-other, or-both, or-left, or-right, same-sym, touched, touched-append, touched-within, untouched, within}
use Rattle.hgs_ops.specs.Theorems.CommitTree.{IsSmall, preparations-within}
use Rattle.hgs_ops.proofs.SmallFiles.IsOne.{phaseroots, dirstate, bookmarks}

-- ---- what is known of the operations

abbrev pub small_paths : List (List ℕ)
small_paths = roots_path ∷ dirstate_path ∷ bookmarks_path ∷ []

-- a path that a journal may name
pub record IsGoodPath (path : List ℕ) : Type 0 where
  pub spelled : in_store (drop 6 path) ≡ path
  pub valid : is_store_path path ≡ true
  pub kept : (is_loose strays path || same path journal_path) ≡ false
  pub other : among path small_paths ≡ false

abbrev pub place_of_file : Replacement → List ℕ
place_of_file x = place x.plain x.file

-- the rename of the new text of one of these files
abbrev pub IsRenameOf : List Replacement → List ℕ → List ℕ → Type 0
IsRenameOf files from to = (x : Replacement) × (from ≡ place x.plain (new_name x.file)) × (to ≡ place_of_file x) × (is_replaced x.plain x.file ≡ true) × (among (place_of_file x) (map place_of_file files) ≡ true)

-- an append to a path that a journal may name, or such a rename
abbrev pub IsGood : List Replacement → Op → Type 0
IsGood files (Append path bytes) = IsGoodPath path
IsGood files (Rename from to) = IsRenameOf files from to
IsGood files _ = ⊥

abbrev pub IsOneFile : Replacement → Type 0
IsOneFile x = is_replaced x.plain x.file ≡ true

-- ---- the journal's lines

pub or-true : (a b : Bool) → b ≡ true → (a || b) ≡ true
or-true true b e = refl
or-true false b e = e

pub lines-good : (t : Tree) (files : List Replacement) (ops : List Op) → ((path : List ℕ) → among path (journal_paths (journal_lines t ops)) ≡ true → length (bytes_at t path) < 2 ^ 64) → AllByRecursion (IsGood files) ops → AllByRecursion IsJournalLine (journal_lines t ops)
lines-good t files [] sizes all = tt
lines-good t files (Append path bytes ∷ ops) sizes all = (
  record {
    path = ap is_store_path all.0.spelled ∙ all.0.valid;
    offset = sizes path (ap (λ b. b || among path (journal_paths (journal_lines t ops))) (ap (same path) all.0.spelled ∙ same-refl path));
  },
  lines-good t files ops (λ p e. sizes p (or-true (same p (in_store (drop 6 path))) (among p (journal_paths (journal_lines t ops))) e)) all.1,
)
lines-good t files (Rename from to ∷ ops) sizes all = lines-good t files ops sizes all.1
lines-good t files (Cut path len ∷ ops) sizes all = absurd all.0
lines-good t files (Remove path ∷ ops) sizes all = absurd all.0
lines-good t files (Create path bytes ∷ ops) sizes all = absurd all.0
lines-good t files (Sync path ∷ ops) sizes all = absurd all.0
lines-good t files (Settle ∷ ops) sizes all = absurd all.0

-- a test that fails at each path that a journal may name fails at the journal's paths
pub paths-fail : (t : Tree) (files : List Replacement) (test : List ℕ → Bool) (ops : List Op) → ((path : List ℕ) → IsGoodPath path → test path ≡ false) → AllByRecursion (IsGood files) ops → list_any test (journal_paths (journal_lines t ops)) ≡ false
paths-fail t files test [] fails all = refl
paths-fail t files test (Append path bytes ∷ ops) fails all = or-both _ _ (ap test all.0.spelled ∙ fails path all.0) (paths-fail t files test ops fails all.1)
paths-fail t files test (Rename from to ∷ ops) fails all = paths-fail t files test ops fails all.1
paths-fail t files test (Cut path len ∷ ops) fails all = absurd all.0
paths-fail t files test (Remove path ∷ ops) fails all = absurd all.0
paths-fail t files test (Create path bytes ∷ ops) fails all = absurd all.0
paths-fail t files test (Sync path ∷ ops) fails all = absurd all.0
paths-fail t files test (Settle ∷ ops) fails all = absurd all.0

among-any : (p : List ℕ) (xs : List (List ℕ)) → list_any (λ q. same p q) xs ≡ among p xs
among-any p [] = refl
among-any p (x ∷ xs) = ap (λ b. same p x || b) (among-any p xs)

-- the small files are not named
pub small-unnamed : (t : Tree) (files : List Replacement) (ops : List Op) (p : List ℕ) → among p small_paths ≡ true → AllByRecursion (IsGood files) ops → among p (journal_paths (journal_lines t ops)) ≡ false
small-unnamed t files ops p e all =
    sym (among-any p (journal_paths (journal_lines t ops))) ∙ paths-fail t files (λ q. same p q) ops (λ q good. apart (λ z. among z small_paths) p q e good.other) all

-- each line has the length of its file
pub offsets : (t : Tree) (files : List Replacement) (ops : List Op) → AllByRecursion (IsGood files) ops → AllByRecursion (HasOffset t) (journal_lines t ops)
offsets t files [] all = tt
offsets t files (Append path bytes ∷ ops) all = (ap (λ q. length (bytes_at t q)) (sym all.0.spelled), offsets t files ops all.1)
offsets t files (Rename from to ∷ ops) all = offsets t files ops all.1
offsets t files (Cut path len ∷ ops) all = absurd all.0
offsets t files (Remove path ∷ ops) all = absurd all.0
offsets t files (Create path bytes ∷ ops) all = absurd all.0
offsets t files (Sync path ∷ ops) all = absurd all.0
offsets t files (Settle ∷ ops) all = absurd all.0

-- ---- the list of backups

pub places-same : (t : Tree) (files : List Replacement) → backup_places (map (backup_line_of t) files) ≡ map place_of_file files
places-same t [] = refl
places-same t (x ∷ files) = ap (λ l. place_of_file x ∷ l) (places-same t files)

pub replaced-all : (t : Tree) (files : List Replacement) → AllByRecursion IsOneFile files → list_all (λ (l : BackupLine). is_replaced l.plain l.file) (map (backup_line_of t) files) ≡ true
replaced-all t [] all = refl
replaced-all t (x ∷ files) all = and-both _ _ all.0 (replaced-all t files all.1)

-- ---- the backups stand

abbrev backup_place : Replacement → List ℕ
backup_place x = place x.plain (backup_name x.file)

abbrev backups_put : Tree → List Replacement → List Op
backups_put t files = flat_map (λ y. backup_put y (standing_file t y)) files

put-apart : (x : Replacement) (o : Option (List ℕ)) (p : List ℕ) → same (backup_place x) p ≡ false → touched p (backup_put x o) ≡ false
put-apart x None p e = refl
put-apart x (Some b) p e = or-both _ _ e refl

others-apart : (t : Tree) (x : Replacement) (files : List Replacement) → IsOneFile x → AllByRecursion IsOneFile files → among (place_of_file x) (map place_of_file files) ≡ false → touched (backup_place x) (backups_put t files) ≡ false
others-apart t x [] one all e = refl
others-apart t x (y ∷ files) one all e =
    touched-append (backup_place x) (backup_put y (standing_file t y)) (backups_put t files)
    (put-apart y (standing_file t y) (backup_place x) (backups-apart y.plain x.plain y.file x.file (is-one y.plain y.file all.0) (is-one x.plain x.file one) ∙ same-sym (place_of_file x) (place_of_file y) (or-left _ _ e)))
    (others-apart t x files one all.1 (or-right (same (place_of_file x) (place_of_file y)) _ e))

abbrev Stands_as : Tree → Tree → Replacement → Type 0
Stands_as t u x = (b : List ℕ) → t (place_of_file x) ≡ Some b → u (backup_place x) ≡ Some b

all-turned : (P Q : Replacement → Type 0) (files : List Replacement) → ((x : Replacement) → P x → Q x) → AllByRecursion P files → AllByRecursion Q files
all-turned P Q [] f all = tt
all-turned P Q (x ∷ files) f all = (f x all.0, all-turned P Q files f all.1)

not-true : (b : Bool) → not b ≡ true → b ≡ false
not-true true e = sym e
not-true false e = refl

backups-stand : (t v : Tree) (files : List Replacement) → AllByRecursion IsOneFile files → no_repeat (map place_of_file files) ≡ true → AllByRecursion (Stands_as t (after_all (backups_put t files) v)) files
backups-stand t v [] all once = tt
backups-stand t v (x ∷ files) all once = (
  first,
  all-turned (Stands_as t (after_all (backups_put t files) (after_all (backup_put x (standing_file t x)) v))) (Stands_as t (after_all (backups_put t (x ∷ files)) v)) files
      (λ y h b e. ap (λ (w : Tree). w (backup_place y)) (after_all-append (backup_put x (standing_file t x)) (backups_put t files) v) ∙ h b e)
      (backups-stand t (after_all (backup_put x (standing_file t x)) v) files all.1 (and-right _ _ once)),
)
  where
    put : (o : Option (List ℕ)) (b : List ℕ) → o ≡ Some b → after_all (backup_put x o) v (backup_place x) ≡ Some b
    put None b e = absurd (no e)
      where
        no : ◌≡◌ {A = Option (List ℕ)} None (Some b) → ⊥
        no h = cc
    put (Some a) b e = with_file-same v (backup_place x) (Some a) ∙ e

    first : Stands_as t (after_all (backups_put t (x ∷ files)) v) x
    first b e =
        ap (λ (w : Tree). w (backup_place x)) (after_all-append (backup_put x (standing_file t x)) (backups_put t files) v)
        ∙ untouched (backups_put t files) (after_all (backup_put x (standing_file t x)) v) (backup_place x) (others-apart t x files all.0 all.1 (not-true _ (and-left _ _ once)))
        ∙ put (standing_file t x) b e

news-apart : (x : Replacement) (files : List Replacement) → IsOneFile x → AllByRecursion IsOneFile files → touched (backup_place x) (map new_put files) ≡ false
news-apart x [] one all = refl
news-apart x (y ∷ files) one all = or-both _ _ (new-backup y.plain x.plain y.file x.file (is-one y.plain y.file all.0) (is-one x.plain x.file one)) (news-apart x files one all.1)

keeps : (t u : Tree) (x : Replacement) → Stands_as t u x → KeepsBackup u t (backup_line_of t x)
keeps t u x h = by (standing_file t x) refl
  where
    by : (o : Option (List ℕ)) → t (place_of_file x) ≡ o → KeepsBackup u t (record { plain = x.plain; file = x.file; backup = cond (is_some o) (backup_name x.file) [] })
    by None e = inr (refl, e)
    by (Some b) e = inl (refl, b, h b e, e)

journal-apart : (p : Bool) (x : List ℕ) → IsOne p x → same new_journal_path (place p (backup_name x)) ≡ false
journal-apart p x phaseroots = refl
journal-apart p x dirstate = refl
journal-apart p x bookmarks = refl

-- ---- the whole of the preparations

module _ (t : Tree) (who : List ℕ) (files : List Replacement) (ones : AllByRecursion IsOneFile files) (once : no_repeat (map place_of_file files) ≡ true) (text : List ℕ) where
  abbrev backups : List BackupLine
  backups = map (backup_line_of t) files

  abbrev prep : List Op
  prep = preparations t who files backups text

  small-own : (xs : List Replacement) → AllByRecursion IsOneFile xs → AllByRecursion (IsSmall (is_loose strays)) xs
  small-own [] all = tt
  small-own (x ∷ xs) all = (names-loose x.plain x.file (is-one x.plain x.file all.0), small-own xs all.1)

  pub prep-loose : list_all (within (is_loose strays)) prep ≡ true
  prep-loose = preparations-within (is_loose strays) t who files backups text refl refl refl refl (small-own files ones)

  pub prep-stays : (path : List ℕ) → (is_loose strays path || same path journal_path) ≡ false → after_all prep t path ≡ t path
  prep-stays path e = untouched prep t path (touched-within (is_loose strays) prep path prep-loose (or-left _ _ e))

  abbrev lead_ops : List Op
  lead_ops = Create wlock_path who ∷ Create lock_path who ∷ backups_put t files

  backup-laid : (x : Replacement) → IsOneFile x → Stands_as t (after_all lead_ops t) x → Stands_as t (after_all prep t) x
  backup-laid x one h b e =
      ap (λ (w : Tree). w (backup_place x)) (after_all-append (lead_ops ++ map new_put files) (Create backups_path (backups_text backups) ∷ Create new_journal_path text ∷ []) t)
      ∙ apply-other (Create new_journal_path text) (apply (Create backups_path (backups_text backups)) (after_all (lead_ops ++ map new_put files) t)) (backup_place x) (journal-apart x.plain x.file (is-one x.plain x.file one))
      ∙ apply-other (Create backups_path (backups_text backups)) (after_all (lead_ops ++ map new_put files) t) (backup_place x) (list-apart x.plain x.file (is-one x.plain x.file one))
      ∙ ap (λ (w : Tree). w (backup_place x)) (after_all-append lead_ops (map new_put files) t)
      ∙ untouched (map new_put files) (after_all lead_ops t) (backup_place x) (news-apart x files one ones)
      ∙ h b e

  pub prep-kept : (xs : List Replacement) → AllByRecursion IsOneFile xs → AllByRecursion (Stands_as t (after_all lead_ops t)) xs → AllByRecursion (KeepsBackup (after_all prep t) t) (map (backup_line_of t) xs)
  prep-kept [] all h = tt
  prep-kept (x ∷ xs) all h = (keeps t (after_all prep t) x (backup-laid x all.0 h.0), prep-kept xs all.1 h.1)

  pub backups-kept : AllByRecursion (KeepsBackup (after_all prep t) t) backups
  backups-kept = prep-kept files ones (backups-stand t (apply (Create lock_path who) (apply (Create wlock_path who) t)) files ones once)

  pub list-stands : after_all prep t backups_path ≡ Some (backups_text backups)
  list-stands =
      ap (λ (w : Tree). w backups_path) (after_all-append (lead_ops ++ map new_put files) (Create backups_path (backups_text backups) ∷ Create new_journal_path text ∷ []) t)
      ∙ apply-other (Create new_journal_path text) (apply (Create backups_path (backups_text backups)) (after_all (lead_ops ++ map new_put files) t)) backups_path refl
      ∙ with_file-same (after_all (lead_ops ++ map new_put files) t) backups_path (Some (backups_text backups))

  pub text-stands : after_all prep t new_journal_path ≡ Some text
  text-stands =
      ap (λ (w : Tree). w new_journal_path) (after_all-append (lead_ops ++ map new_put files) (Create backups_path (backups_text backups) ∷ Create new_journal_path text ∷ []) t)
      ∙ with_file-same (apply (Create backups_path (backups_text backups)) (after_all (lead_ops ++ map new_put files) t)) new_journal_path (Some text)
