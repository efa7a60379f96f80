-- A command's transaction has the shape that a loss of power asks for.
use Rattle.std.proofs.Common.{cond, ◌≡◌, ◌⊎◌, ℕ, List, [], ◌∷◌, ◌++◌, append-nil, Bool, true, false, not, ◌&&◌, ◌||◌, map, refl, sym, ◌∙◌, ap, inl, inr}
use Rattle.std.specs.Prelude.{Option, Some, None, is_some}
use Rattle.std.specs.List.{AllByRecursion, list_all, list_any}
use Rattle.hgs_bytes.specs.Bytes.{same, among}
use Rattle.hgs_bytes.specs.Theorems.ByteLemmas.{same-eq}
use Rattle.hgs_files.specs.declared.op.Op.{Op}
use Rattle.hgs_files.specs.declared.op.Op.TheVariants.{Append, Cut, Rename, Remove, Create, Sync, Settle}
use Rattle.hgs_files.specs.Tree.{Tree, touches}
use Rattle.hgs_journal.specs.declared.journal.JournalLine.{JournalLine}
use Rattle.hgs_journal.specs.Covers.{is_loose, journal_paths, no_repeat}
use Rattle.hgs_journal.specs.Names.{backup_name, is_replaced, journal_path, place}
use Rattle.hgs_journal.specs.Theorems.TreeFacts.{bool, other-path, same-sym}
use Rattle.hgs_model.specs.Repo.{Repo}
use Rattle.hgs_model.specs.Theorems.ListLemmas.{all-join}
use Rattle.hgs_model.specs.declared.command.Command.{Command}
use Rattle.hgs_model.specs.declared.command.Command.TheVariants.{Commit, Import, Move, Mark, Unmark}
use Rattle.hgs_power.specs.Calm.{Sweeps}
use Rattle.hgs_power.specs.Held.{backup_paths, backup_then}
use Rattle.hgs_power.specs.Shape.{IsAmong, IsOnward, IsShape, New, line_of, new_of, place_of}
use Rattle.hgs_power.specs.Theorems.Onwards.{onward-transaction}
use Rattle.hgs_power.specs.Theorems.Shapes.{shape-transaction}
use Rattle.hgs_power.specs.Transaction.{IsTransaction}
use Rattle.hgs_stands.specs.Places.{changelog_index}
use Rattle.hgs_ops.specs.Growth.{new_changelog_entry, growth, new_paths}
use Rattle.hgs_ops.specs.Operations.{appending, journal_lines, new_changelog_path, strays, removals}
use Rattle.hgs_ops.specs.PowerSteps.{as_new, commit_shape, new_index, power_steps, rename_shape}
use Rattle.hgs_ops.specs.Replaced.{Replacement, dirstate_with, marks_with, new_bookmarks, new_dirstate, new_roots, roots_with, only_if, roots_change, roots_of}
use Rattle.hgs_ops.specs.Unhindered.{IsReady}
use Rattle.hex.specs.Hex.{IsBytes}
use Rattle.hgs_journal.specs.Texts.{IsJournalLine}
use Rattle.hgs_model.specs.Step.{sets_bookmark}
use Rattle.hgs_ops.specs.Theorems.CommitLemmas.{growth-index}
use Rattle.hgs_ops.specs.Theorems.Clear.{IsAppend, among-split, any-append, appends-named, clear-apart, growth-clear, or-true, or-up, paths-append, roots-no_lines}
use Rattle.hgs_ops.specs.Theorems.CommitTree.{files_of, first_of}
use Rattle.hgs_ops.specs.Theorems.Touch.{never, or-both, or-left, or-right, touched}
use Rattle.hgs_ops.proofs.GoodLemmas.{files-once, files-ones, first-good, growth-good, publish-good}
use Rattle.hgs_ops.proofs.JournalLemmas.{IsGood, IsOneFile, offsets, place_of_file, small-unnamed, small_paths}
use Rattle.hgs_ops.proofs.SmallFiles.{IsOne, is-one}
use Rattle.hgs_ops.proofs.SmallFiles.IsOne.{phaseroots, dirstate, bookmarks}
use Rattle.hgs_ops.proofs.TransactionLemmas.{plan-of}

-- ---- replaced files

places-new : (files : List Replacement) → map place_of (map as_new files) ≡ map place_of_file files
places-new [] = refl
places-new (x ∷ files) = ap (λ l. place_of_file x ∷ l) (places-new files)

ones-new : (files : List Replacement) → AllByRecursion IsOneFile files → AllByRecursion (λ (x : New). is_replaced x.plain x.file ≡ true) (map as_new files)
ones-new [] all = tt
ones-new (x ∷ files) all = (all.0, ones-new files all.1)

small-one : (p : Bool) (x : List ℕ) → IsOne p x → among (place p x) small_paths ≡ true
small-one p x phaseroots = refl
small-one p x dirstate = refl
small-one p x bookmarks = refl

places-small : (files : List Replacement) (p : List ℕ) → AllByRecursion IsOneFile files → among p (map place_of_file files) ≡ true → among p small_paths ≡ true
places-small [] p all e = never (sym e)
places-small (x ∷ files) p all e = by (or-true (same p (place_of_file x)) (among p (map place_of_file files)) e) (places-small files p all.1)
  where
    by : (same p (place_of_file x) ≡ true) ⊎ (among p (map place_of_file files) ≡ true) → (among p (map place_of_file files) ≡ true → among p small_paths ≡ true) → among p small_paths ≡ true
    by (inl h) rec = ap (λ y. among y small_paths) (same-eq p (place_of_file x) h) ∙ small-one x.plain x.file (is-one x.plain x.file all.0)
    by (inr h) rec = rec h

first-among : (rc bk : Bool) (a b c : List ℕ) → AllByRecursion (IsAmong (map as_new (files_of rc bk a b c))) (map as_new (only_if rc (roots_with a)))
first-among true true a b c = ((refl, refl, refl), tt)
first-among true false a b c = ((refl, refl, refl), tt)
first-among false bk a b c = tt

second-among : (rc bk : Bool) (a b c : List ℕ) → AllByRecursion (IsAmong (map as_new (files_of rc bk a b c))) (map as_new (dirstate_with b ∷ only_if bk (marks_with c)))
second-among true true a b c = ((refl, refl, refl), ((refl, refl, refl), tt))
second-among true false a b c = ((refl, refl, refl), tt)
second-among false true a b c = ((refl, refl, refl), ((refl, refl, refl), tt))
second-among false false a b c = ((refl, refl, refl), tt)

removals-sweep : AllByRecursion (Sweeps strays) removals
removals-sweep = (refl, (refl, (refl, (refl, (refl, (refl, (refl, (refl, (refl, (refl, (refl, (refl, tt))))))))))))

-- ---- a commit and an import

abbrev files_with : Repo → Bool → Repo → List Replacement
files_with r marks next = files_of (roots_change r next) marks (roots_of next) (new_dirstate next).text (new_bookmarks next).text

-- no file has the name under which the new index is put
from-backup : (p : Bool) (x : List ℕ) → IsOne p x → same new_changelog_path (place p (backup_name x)) ≡ false
from-backup p x phaseroots = refl
from-backup p x dirstate = refl
from-backup p x bookmarks = refl

from-saved : (t : Tree) (files : List Replacement) → AllByRecursion IsOneFile files → among new_changelog_path (backup_paths (map (line_of t) (map as_new files))) ≡ false
from-saved t [] all = refl
from-saved t (x ∷ files) all = by (t (place x.plain x.file)) (from-saved t files all.1)
  where
    by : (o : Option (List ℕ)) → among new_changelog_path (backup_paths (map (line_of t) (map as_new files))) ≡ false
        → among new_changelog_path (backup_then x.plain (cond (is_some o) (backup_name x.file) []) (backup_paths (map (line_of t) (map as_new files)))) ≡ false
    by None h = h
    by (Some b) h = or-both _ _ (from-backup x.plain x.file (is-one x.plain x.file all.0)) h

from-news : (rc marks : Bool) (a b c : List ℕ) → among new_changelog_path (map new_of (map as_new (files_of rc marks a b c))) ≡ false
from-news true true a b c = refl
from-news true false a b c = refl
from-news false true a b c = refl
from-news false false a b c = refl

from-files : (rc marks : Bool) (a b c : List ℕ) → among new_changelog_path (map place_of (map as_new (files_of rc marks a b c))) ≡ false
from-files true true a b c = refl
from-files true false a b c = refl
from-files false true a b c = refl
from-files false false a b c = refl

-- a path that is a stray's is not among those of which none is
not-among : (p : List ℕ) (paths : List (List ℕ)) → is_loose strays p ≡ true → list_any (λ path. is_loose strays path || same path journal_path) paths ≡ false → among p paths ≡ false
not-among p [] loose e = refl
not-among p (q ∷ paths) loose e = by (bool (same p q)) (not-among p paths loose (or-right (is_loose strays q || same q journal_path) _ e))
  where
    by : (same p q ≡ true) ⊎ (same p q ≡ false) → among p paths ≡ false → (same p q || among p paths) ≡ false
    by (inl h) rest = never (sym loose ∙ ap (is_loose strays) (same-eq p q h) ∙ or-left (is_loose strays q) (same q journal_path) (or-left (is_loose strays q || same q journal_path) _ e))
    by (inr h) rest = or-both _ _ h rest

-- what is not touched is touched by none of its operations; syncs and settles aside, which growth has none of
still-untouched : (p : List ℕ) (xs : List Op) → AllByRecursion IsAppend xs → touched p xs ≡ false → list_all (λ op. not (touches op p)) xs ≡ true
still-untouched p [] all e = refl
still-untouched p (Append path bytes ∷ xs) all e = ap (λ b. not b && list_all (λ op. not (touches op p)) xs) (other-path path p (or-left (same path p) (touched p xs) e)) ∙ still-untouched p xs all.1 (or-right (same path p) (touched p xs) e)
still-untouched p (Cut path len ∷ xs) all e = absurd all.0
still-untouched p (Rename from to ∷ xs) all e = absurd all.0
still-untouched p (Remove path ∷ xs) all e = absurd all.0
still-untouched p (Create path bytes ∷ xs) all e = absurd all.0
still-untouched p (Sync path ∷ xs) all e = absurd all.0
still-untouched p (Settle ∷ xs) all e = absurd all.0

module _ (t : Tree) (r next : Repo) (marks : Bool) (who : List ℕ) (paths : AllByRecursion IsBytes (new_paths r next)) (spelled : AllByRecursion IsJournalLine (journal_lines t (appending t r next))) where
  abbrev files : List Replacement
  files = files_with r marks next

  abbrev roots : List Op
  roots = first_of (roots_change r next) (roots_of next)

  abbrev publish : Op
  publish = Append changelog_index (new_changelog_entry t r next)

  abbrev all : List Op
  all = (growth t r next ++ roots) ++ (publish ∷ [])

  abbrev journal : List JournalLine
  journal = journal_lines t all

  abbrev grown_paths : List (List ℕ)
  grown_paths = journal_paths (journal_lines t (growth t r next))

  ones : AllByRecursion IsOneFile files
  ones = files-ones (roots_change r next) (marks) (roots_of next) (new_dirstate next).text (new_bookmarks next).text

  good : AllByRecursion (IsGood files) all
  good =
      all-join (IsGood files) (growth t r next ++ roots) (publish ∷ [])
      (all-join (IsGood files) (growth t r next) roots (growth-good files t r next paths) (first-good (roots_change r next) (marks) (roots_of next) (new_dirstate next).text (new_bookmarks next).text))
      (publish-good, tt)

  paths-are : journal_paths journal ≡ grown_paths ++ (changelog_index ∷ [])
  paths-are =
      paths-append t (growth t r next ++ roots) (publish ∷ [])
      ∙ ap (λ l. l ++ (changelog_index ∷ [])) (paths-append t (growth t r next) roots ∙ ap (λ l. grown_paths ++ journal_paths l) (roots-no_lines t (roots_change r next) (roots_of next)) ∙ append-nil grown_paths)

  named : (p : List ℕ) → among p grown_paths ≡ true → among p (journal_paths journal) ≡ true
  named p e = ap (among p) paths-are ∙ among-split p grown_paths (changelog_index ∷ []) ∙ ap (λ b. b || among p (changelog_index ∷ [])) e

  published : among changelog_index (journal_paths journal) ≡ true
  published = ap (among changelog_index) paths-are ∙ among-split changelog_index grown_paths (changelog_index ∷ []) ∙ or-up (among changelog_index grown_paths) (among changelog_index (changelog_index ∷ [])) refl

  split : (p : List ℕ) → among p (journal_paths journal) ≡ true → (among p grown_paths ≡ true) ⊎ (among p (changelog_index ∷ []) ≡ true)
  split p e = or-true (among p grown_paths) (among p (changelog_index ∷ [])) (sym (ap (among p) paths-are ∙ among-split p grown_paths (changelog_index ∷ [])) ∙ e)

  synced : (p : List ℕ) → among p (journal_paths journal) ≡ true → ((among p grown_paths ≡ true) × (list_all (λ op. not (touches op p)) (publish ∷ []) ≡ true)) ⊎ (among p (changelog_index ∷ []) ≡ true)
  synced p e = by (split p e) (bool (same p changelog_index))
    where
      by : (among p grown_paths ≡ true) ⊎ (among p (changelog_index ∷ []) ≡ true) → (same p changelog_index ≡ true) ⊎ (same p changelog_index ≡ false)
          → ((among p grown_paths ≡ true) × (list_all (λ op. not (touches op p)) (publish ∷ []) ≡ true)) ⊎ (among p (changelog_index ∷ []) ≡ true)
      by (inr h) i = inr h
      by (inl g) (inl i) = inr (ap (λ b. b || false) i)
      by (inl g) (inr i) = inl (g, ap (λ b. not b && true) (other-path changelog_index p (same-sym p changelog_index i)))

  pub commit-shape : IsShape strays t (commit_shape t r marks who next)
  commit-shape = record {
    locks = (refl, (refl, tt));
    lines = spelled;
    offsets = offsets t files all good;
    apart = ap (list_any (λ path. is_loose strays path || same path journal_path)) paths-are
        ∙ any-append (λ path. is_loose strays path || same path journal_path) grown_paths (changelog_index ∷ []) (clear-apart t (growth t r next) (growth-clear t r next)) refl;
    ones = ones-new files ones;
    once = ap no_repeat (places-new files) ∙ files-once (roots_change r next) (marks) (roots_of next) (new_dirstate next).text (new_bookmarks next).text;
    unnamed = λ p e. small-unnamed t files all p (places-small files p ones (sym (ap (among p) (places-new files)) ∙ e)) good;
    appended = appends-named t (growth t r next) (journal_paths journal) (growth-clear t r next) named journal refl;
    published = (published, tt);
    synced = synced;
    first = first-among (roots_change r next) (marks) (roots_of next) (new_dirstate next).text (new_bookmarks next).text;
    second = second-among (roots_change r next) (marks) (roots_of next) (new_dirstate next).text (new_bookmarks next).text;
    removals = removals-sweep;
  }

  -- an import, whose new index takes the place of the one that stands
  pub import-shape : IsOnward strays t (commit_shape t r marks who next) (new_index t r next)
  import-shape = record {
    shape = commit-shape;
    loose = refl;
    unread = from-saved t files ones;
    unput = from-news (roots_change r next) marks (roots_of next) (new_dirstate next).text (new_bookmarks next).text;
    unnamed = from-files (roots_change r next) marks (roots_of next) (new_dirstate next).text (new_bookmarks next).text;
    unsynced = not-among new_changelog_path grown_paths refl (clear-apart t (growth t r next) (growth-clear t r next));
    named = published;
    still = still-untouched changelog_index (growth t r next) (growth-clear t r next) (growth-index t r next);
    synced = λ p e. its p (split p e);
  }
    where
      its : (p : List ℕ) → (among p grown_paths ≡ true) ⊎ (among p (changelog_index ∷ []) ≡ true) → (same p changelog_index ≡ true) ⊎ (among p grown_paths ≡ true)
      its p (inl h) = inr h
      its p (inr h) = inl (one (same p changelog_index) h)
        where
          one : (b : Bool) → (b || false) ≡ true → b ≡ true
          one true k = refl
          one false k = k

-- ---- the other commands

roots-shape : (t : Tree) (who text : List ℕ) → IsShape strays t (rename_shape who (roots_with text))
roots-shape t who text = record {
  locks = (refl, (refl, tt));
  lines = tt;
  offsets = tt;
  apart = refl;
  ones = (refl, tt);
  once = refl;
  unnamed = λ p e. refl;
  appended = tt;
  published = tt;
  synced = λ p e. never (sym e);
  first = ((refl, refl, refl), tt);
  second = tt;
  removals = removals-sweep;
}

marks-shape : (t : Tree) (who text : List ℕ) → IsShape strays t (rename_shape who (marks_with text))
marks-shape t who text = record {
  locks = (refl, (refl, tt));
  lines = tt;
  offsets = tt;
  apart = refl;
  ones = (refl, tt);
  once = refl;
  unnamed = λ p e. refl;
  appended = tt;
  published = tt;
  synced = λ p e. never (sym e);
  first = ((refl, refl, refl), tt);
  second = tt;
  removals = removals-sweep;
}

-- ---- each command

pub command-transaction : (t : Tree) (r next : Repo) (command : Command) (who : List ℕ) → IsReady t r command next → IsTransaction strays (power_steps t r command who next) t
command-transaction t r next (Commit n) who ready = shape-transaction strays refl refl t (commit_shape t r (is_some n.bookmark) who next) (commit-shape t r next (is_some n.bookmark) who ready.1.paths (plan-of t r next (Commit n) ready).spelled)
command-transaction t r next (Import changes) who ready =
    onward-transaction strays refl refl t (commit_shape t r (sets_bookmark changes) who next) (new_index t r next) (import-shape t r next (sets_bookmark changes) who ready.1.paths (plan-of t r next (Import changes) ready).spelled)
command-transaction t r next (Move rev phase force) who ready = shape-transaction strays refl refl t (rename_shape who (new_roots next)) (roots-shape t who (roots_of next))
command-transaction t r next (Mark name rev) who ready = shape-transaction strays refl refl t (rename_shape who (new_bookmarks next)) (marks-shape t who (new_bookmarks next).text)
command-transaction t r next (Unmark name) who ready = shape-transaction strays refl refl t (rename_shape who (new_bookmarks next)) (marks-shape t who (new_bookmarks next).text)
