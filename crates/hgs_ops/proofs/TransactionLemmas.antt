-- The transaction of each command: where it leads, and what a stop in it leaves.
use Rattle.std.proofs.Common.{◌≡◌, ◌⊎◌, ℕ, ◌<◌, List, [], ◌∷◌, ◌++◌, Bool, true, false, ◌||◌, length, refl, inl, inr, append_assoc, sym, ◌∙◌, ap, subst}
use Rattle.std.specs.Prelude.{◌^◌, Ok, Some, is_some}
use Rattle.std.specs.List.{AllByRecursion, list_all}
use Rattle.hex.specs.Hex.{IsBytes}
use Rattle.hgs_bytes.specs.Bytes.{among, same}
use Rattle.hgs_bytes.specs.Theorems.ByteLemmas.{same-refl}
use Rattle.hgs_files.specs.declared.op.Op.{Op}
use Rattle.hgs_files.specs.declared.op.Op.TheVariants.{Append, Create, Remove, Rename}
use Rattle.hgs_files.specs.Log.{IsDone}
use Rattle.hgs_files.specs.Tree.{Tree, after_all, apply, bytes_at}
use Rattle.hgs_files.specs.Theorems.TreeLemmas.{after_all-append}
use Rattle.hgs_journal.specs.Covers.{Covers, Restores, is_loose, journal_paths}
use Rattle.hgs_journal.specs.Names.{journal_path}
use Rattle.hgs_model.specs.Theorems.ListLemmas.{all-join}
use Rattle.hgs_model.specs.declared.command.Command.{Command}
use Rattle.hgs_model.specs.declared.command.Command.TheVariants.{Commit, Import, Move, Mark, Unmark}
use Rattle.hgs_model.specs.declared.command.NewChange.{NewChange}
use Rattle.hgs_model.specs.Repo.{Repo}
use Rattle.hgs_model.specs.Step.{Answer, sets_bookmark, step}
use Rattle.hgs_model.specs.Valid.{IsValid}
use Rattle.hgs_stands.specs.Open.{IsOpen}
use Rattle.hgs_stands.specs.Places.{changelog_index}
use Rattle.hgs_stands.specs.Stands.{IsClean, Stands}
use Rattle.hgs_ops.specs.Growth.{growth, new_changelog_entry, new_paths}
use Rattle.hgs_ops.specs.Operations.{appending, changes_before, journal_lines, journalled, new_changelog_index, new_changelog_path, operations, publishing, removals, renames_after, strays, transaction_of, journal_of}
use Rattle.hgs_ops.specs.Replaced.{Replacement, new_bookmarks, new_dirstate, new_rename, new_roots, replacements, roots_with, roots_change, roots_of}
use Rattle.hgs_ops.specs.Stops.{IsBetween}
use Rattle.hgs_ops.specs.Unhindered.{CanBeJournalled, IsReady}
use Rattle.hgs_ops.proofs.Below.{Below}
use Rattle.hgs_ops.specs.Theorems.CommitLemmas.{commit-leads, growth-index, growth-quiet, import-leads}
use Rattle.hgs_ops.specs.Theorems.CommitTree.{is_quiet, files_of, first_of, second_of}
use Rattle.hgs_ops.proofs.GoodLemmas.{files-ones, files-once, first-good, growth-good, publish-good, second-good, second-none}
use Rattle.hgs_ops.proofs.ImportParts.{ComesTo, comes-self, import-comes, whole-made}
use Rattle.hgs_ops.proofs.JournalLemmas.{IsGood, IsOneFile, lines-good, place_of_file, prep-loose}
use Rattle.hgs_ops.proofs.OneLemmas.{mark-leads, move-leads, unmark-leads}
use Rattle.hgs_ops.proofs.Plan.{IsPlan, lines-through, before-stands, changes-lead-back, changes-open, may-stop, removed-stands, undo-back, undo-may-stop, undone-clean}
use Rattle.hgs_ops.specs.Theorems.Touch.{or-both, touched, touched-append, touches, within}
use Rattle.hgs_journal.specs.Texts.{journal_text}

-- the operations of a transaction of any command lead to the next repository
pub transaction-leads : (t : Tree) (r next : Repo) (command : Command) (who : List ℕ) (answer : Answer) → Stands t r → IsValid command → step r command ≡ Ok (next, answer) → IsReady t r command next → IsClean (after_all (operations (transaction_of t r command who next)) t) next
transaction-leads t r next (Commit n) who answer s valid e ready = commit-leads t r next n who answer s valid e ready.0
transaction-leads t r next (Import changes) who answer s valid e ready = import-leads t r next changes who answer s valid e ready.0
transaction-leads t r next (Move rev phase force) who answer s valid e ready = move-leads t r next rev phase force who answer s e
transaction-leads t r next (Mark name rev) who answer s valid e ready = mark-leads t r next name rev who answer s valid e
transaction-leads t r next (Unmark name) who answer s valid e ready = unmark-leads t r next name who answer s e

-- ---- a commit and an import

abbrev commit_files : Repo → Bool → Repo → List Replacement
commit_files r bk next = files_of (roots_change r next) bk (roots_of next) (new_dirstate next).text (new_bookmarks next).text

abbrev commit_changes : Tree → Repo → Repo → List Op
commit_changes t r next = growth t r next ++ first_of (roots_change r next) (roots_of next)

abbrev commit_publish : Tree → Repo → Repo → Op
commit_publish t r next = Append changelog_index (new_changelog_entry t r next)

abbrev commit_renames : Bool → Repo → List Op
commit_renames bk next = second_of bk (new_dirstate next).text (new_bookmarks next).text

-- what an import does up to its publishing operation
abbrev import_changes : Tree → Repo → Repo → List Op
import_changes t r next = growth t r next ++ Create new_changelog_path (new_changelog_index t r next) ∷ first_of (roots_change r next) (roots_of next)

abbrev import_publish : Op
import_publish = Rename new_changelog_path changelog_index

changes-good : (t : Tree) (r next : Repo) (bk : Bool) → AllByRecursion IsBytes (new_paths r next) → AllByRecursion (IsGood (commit_files r bk next)) (commit_changes t r next)
changes-good t r next bk paths =
    all-join (IsGood (commit_files r bk next)) (growth t r next) (first_of (roots_change r next) (roots_of next)) (growth-good (commit_files r bk next) t r next paths)
    (first-good (roots_change r next) bk (roots_of next) (new_dirstate next).text (new_bookmarks next).text)

-- what the journal of either can say
abbrev FitsJournal : Tree → Repo → Repo → Type 0
FitsJournal t r next = (path : List ℕ) → among path (journal_paths (journal_lines t (appending t r next))) ≡ true → length (bytes_at t path) < 2 ^ 64

-- a plan of operations that come to those of a commit
appends-plan : (t : Tree) (r next : Repo) (bk : Bool) (changes : List Op) (publish : Op) → AllByRecursion IsBytes (new_paths r next) → FitsJournal t r next
    → ((u : Tree) → bytes_at u changelog_index ≡ bytes_at t changelog_index → (done left : List Op) → IsDone (changes ++ publish ∷ commit_renames bk next) done left → ComesTo (commit_changes t r next ++ commit_publish t r next ∷ commit_renames bk next) u done)
    → IsPlan t (commit_files r bk next) (appending t r next) changes publish (commit_renames bk next)
appends-plan t r next bk changes publish paths sizes comes = record {
  ones = files-ones (roots_change r next) bk (roots_of next) (new_dirstate next).text (new_bookmarks next).text;
  once = files-once (roots_change r next) bk (roots_of next) (new_dirstate next).text (new_bookmarks next).text;
  ops = commit_changes t r next ++ commit_publish t r next ∷ commit_renames bk next;
  good = all-join (IsGood (commit_files r bk next)) (commit_changes t r next) (commit_publish t r next ∷ commit_renames bk next) (changes-good t r next bk paths)
      (publish-good, second-good (roots_change r next) bk (roots_of next) (new_dirstate next).text (new_bookmarks next).text);
  lines = lines-through t (commit_changes t r next) (commit_publish t r next) (commit_renames bk next) (second-none t bk (new_dirstate next).text (new_bookmarks next).text);
  spelled = lines-good t (commit_files r bk next) (commit_changes t r next ++ commit_publish t r next ∷ []) sizes
      (all-join (IsGood (commit_files r bk next)) (commit_changes t r next) (commit_publish t r next ∷ []) (changes-good t r next bk paths) (publish-good, tt));
  comes = comes;
}

commit-plan : (t : Tree) (r next : Repo) (n : NewChange) → CanBeJournalled t r (Commit n) next → IsPlan t (commit_files r (is_some n.bookmark) next) (appending t r next) (commit_changes t r next) (commit_publish t r next) (commit_renames (is_some n.bookmark) next)
commit-plan t r next n can =
    appends-plan t r next (is_some n.bookmark) (commit_changes t r next) (commit_publish t r next) can.paths can.sizes
    (λ u index done left h. comes-self (commit_changes t r next ++ commit_publish t r next ∷ commit_renames (is_some n.bookmark) next) u done left h)

-- ---- an import

pub first-untouched : (b : Bool) (roots q : List ℕ) → touched q (new_rename (roots_with roots) ∷ []) ≡ false → touched q (first_of b roots) ≡ false
first-untouched true roots q e = e
first-untouched false roots q e = refl

second-untouched : (bk : Bool) (dirstate marks : List ℕ) → touched new_changelog_path (second_of bk dirstate marks) ≡ false
second-untouched true dirstate marks = refl
second-untouched false dirstate marks = refl

-- the changelog's index is not touched before the publishing operation
pub index-untouched : (t : Tree) (r next : Repo) → touched changelog_index (commit_changes t r next) ≡ false
index-untouched t r next = touched-append changelog_index (growth t r next) (first_of (roots_change r next) (roots_of next)) (growth-index t r next) (first-untouched (roots_change r next) (roots_of next) changelog_index refl)

pub import-comes-to : (t : Tree) (r next : Repo) (bk : Bool) (u : Tree) → bytes_at u changelog_index ≡ bytes_at t changelog_index → (done left : List Op) → IsDone (import_changes t r next ++ import_publish ∷ commit_renames bk next) done left
    → ComesTo (commit_changes t r next ++ commit_publish t r next ∷ commit_renames bk next) u done
import-comes-to t r next bk u index done left h =
    import-comes u (growth t r next) (first_of (roots_change r next) (roots_of next)) (commit_renames bk next) (new_changelog_entry t r next)
    (growth-quiet t r next new_changelog_path refl) (first-untouched (roots_change r next) (roots_of next) new_changelog_path refl) (second-untouched bk (new_dirstate next).text (new_bookmarks next).text) (index-untouched t r next) done left
    (subst (λ l. IsDone ((growth t r next ++ Create new_changelog_path (l ++ new_changelog_entry t r next) ∷ first_of (roots_change r next) (roots_of next)) ++ import_publish ∷ commit_renames bk next) done left) (sym index) h)

-- the new index stands before it is renamed
pub import-made : (t : Tree) (r next : Repo) (u : Tree) → after_all (import_changes t r next) u new_changelog_path ≡ Some (new_changelog_index t r next)
import-made t r next u = whole-made u (growth t r next) (first_of (roots_change r next) (roots_of next)) (new_changelog_index t r next) (growth-quiet t r next new_changelog_path refl) (first-untouched (roots_change r next) (roots_of next) new_changelog_path refl)

import-plan : (t : Tree) (r next : Repo) (changes : List NewChange) → CanBeJournalled t r (Import changes) next → IsPlan t (commit_files r (sets_bookmark changes) next) (appending t r next) (import_changes t r next) import_publish (commit_renames (sets_bookmark changes) next)
import-plan t r next changes can = appends-plan t r next (sets_bookmark changes) (import_changes t r next) import_publish can.paths can.sizes (import-comes-to t r next (sets_bookmark changes))

-- ---- each command

-- one rename of a new text is its own plan
one-plan : (t : Tree) (x : Replacement) → IsOneFile x → IsPlan t (x ∷ []) (new_rename x ∷ []) [] (new_rename x) []
one-plan t x one = record {
  ones = (one, tt);
  once = refl;
  ops = new_rename x ∷ [];
  good = ((x, refl, refl, one, ap (λ b. b || false) (same-refl (place_of_file x))), tt);
  lines = refl;
  spelled = tt;
  comes = λ u index done left h. comes-self (new_rename x ∷ []) u done left h;
}

pub plan-of : (t : Tree) (r next : Repo) (command : Command) → IsReady t r command next → IsPlan t (replacements r command next) (journalled t r command next) (changes_before t r command next) (publishing t r command next) (renames_after command next)
plan-of t r next (Commit n) ready = commit-plan t r next n ready.1
plan-of t r next (Import changes) ready = import-plan t r next changes ready.1
plan-of t r next (Move rev phase force) ready = one-plan t (new_roots next) refl
plan-of t r next (Mark name rev) ready = one-plan t (new_bookmarks next) refl
plan-of t r next (Unmark name) ready = one-plan t (new_bookmarks next) refl

module _ (below : Below) (t : Tree) (r next : Repo) (command : Command) (who : List ℕ) (s : Stands t r) (ready : IsReady t r command next) where
  abbrev plan : IsPlan t (replacements r command next) (journalled t r command next) (changes_before t r command next) (publishing t r command next) (renames_after command next)
  plan = plan-of t r next command ready

  abbrev files : List Replacement
  files = replacements r command next

  abbrev named : List Op
  named = journalled t r command next

  abbrev changes : List Op
  changes = changes_before t r command next

  abbrev publish : Op
  publish = publishing t r command next

  abbrev renames : List Op
  renames = renames_after command next

  -- the tree before the journal has its name, and that in which it has it
  abbrev laid : Tree
  laid = after_all (transaction_of t r command who next).before t

  abbrev opened : Tree
  opened = apply (transaction_of t r command who next).journal laid

  abbrev behind_it : List Op
  behind_it = (transaction_of t r command who next).changes ++ (transaction_of t r command who next).publish ∷ (transaction_of t r command who next).renames

  pub before : (done left : List Op) → IsDone (transaction_of t r command who next).before done left → Stands (after_all done t) r
  before done left h = before-stands below t who files named changes publish renames plan r s done left h

  -- it stays open until the journal goes
  pub stays-open : (done left : List Op) → IsDone behind_it done left → IsOpen strays (after_all done opened) r
  stays-open done left h = changes-open below t who files named changes publish renames plan r s done left h

  -- the operations that undo it lead back, and with the removals to a clean tree
  pub undo-leads : (done left : List Op) → IsDone behind_it done left → IsClean (after_all ((transaction_of t r command who next).undo ++ removals) (after_all done opened)) r
  undo-leads done left h = undone-clean below t who files named changes publish renames plan r s done left h

  -- wherever undoing is stopped the tree is still open, or stands
  pub undo-stops : (done left : List Op) → IsDone behind_it done left → (undone rest : List Op) → IsDone (transaction_of t r command who next).undo undone rest → IsOpen strays (after_all undone (after_all done opened)) r ⊎ ((rest ≡ []) × Stands (after_all undone (after_all done opened)) r)
  undo-stops done left h undone rest k = undo-may-stop below t who files named changes publish renames plan r s done left h undone rest k

  -- ---- the tree before the transaction is the one that is led back to

  pub kept-covers : (done left : List Op) → IsDone behind_it done left → Covers strays (after_all done opened) t
  kept-covers done left h = (changes-lead-back below t who files named changes publish renames plan r s done left h).covers

  pub undone-covers : (done left : List Op) → IsDone behind_it done left → (undone rest : List Op) → IsDone (transaction_of t r command who next).undo undone rest → Covers strays (after_all undone (after_all done opened)) t ⊎ ((rest ≡ []) × Restores strays (after_all undone (after_all done opened)) t)
  undone-covers done left h undone rest k = elim (undo-back below t who files named changes publish renames plan r s done left h undone rest k) [ inl lead ↦ inl lead.covers | inr ends ↦ inr ends ]

  module _ (answer : Answer) (valid : IsValid command) (accepted : step r command ≡ Ok (next, answer)) where
    -- the whole, grouped as a plan has it
    grouped : operations (transaction_of t r command who next) ≡ (transaction_of t r command who next).before ++ ((transaction_of t r command who next).journal ∷ changes) ++ (publish ∷ renames) ++ (Remove journal_path ∷ removals)
    grouped = refl

    leads : Stands (after_all (operations (transaction_of t r command who next)) t) next
    leads = (transaction-leads t r next command who answer s valid accepted ready).stands

    -- wherever it is stopped
    pub stopped : (done left : List Op) → IsDone (operations (transaction_of t r command who next)) done left → IsBetween (after_all done t) r next
    stopped done left h = may-stop below t who files named changes publish renames plan r s next leads done left h

    -- behind the removal of the journal the tree stands for the next repository
    pub removed : (done left : List Op) → IsDone removals done left → Stands (after_all done (apply (Remove journal_path) (after_all behind_it opened))) next
    removed done left h = removed-stands below t who files named changes publish renames plan r s next leads done left h

-- before the journal only locks and strays are written
pub before-loose : (t : Tree) (r next : Repo) (command : Command) (who : List ℕ) → list_all (within (is_loose strays)) (transaction_of t r command who next).before ≡ true
before-loose t r next (Commit n) who = prep-loose t who (commit_files r (is_some n.bookmark) next) (files-ones (roots_change r next) (is_some n.bookmark) (roots_of next) (new_dirstate next).text (new_bookmarks next).text) (files-once (roots_change r next) (is_some n.bookmark) (roots_of next) (new_dirstate next).text (new_bookmarks next).text) (journal_text (journal_of t r (Commit n) next))
before-loose t r next (Import changes) who = prep-loose t who (commit_files r (sets_bookmark changes) next) (files-ones (roots_change r next) (sets_bookmark changes) (roots_of next) (new_dirstate next).text (new_bookmarks next).text) (files-once (roots_change r next) (sets_bookmark changes) (roots_of next) (new_dirstate next).text (new_bookmarks next).text) (journal_text (journal_of t r (Import changes) next))
before-loose t r next (Move rev phase force) who = prep-loose t who (new_roots next ∷ []) (refl, tt) refl (journal_text (journal_of t r (Move rev phase force) next))
before-loose t r next (Mark name rev) who = prep-loose t who (new_bookmarks next ∷ []) (refl, tt) refl (journal_text (journal_of t r (Mark name rev) next))
before-loose t r next (Unmark name) who = prep-loose t who (new_bookmarks next ∷ []) (refl, tt) refl (journal_text (journal_of t r (Unmark name) next))

-- a commit comes to the dirstate and the bookmarks behind its publishing operation alone
pub commit-quiet : (t : Tree) (r next : Repo) (n : NewChange) (who q : List ℕ) → is_quiet q ≡ true → touched q (new_rename (new_roots next) ∷ []) ≡ false → touches q (commit_publish t r next) ≡ false
    → touched q ((transaction_of t r (Commit n) who next).changes ++ (transaction_of t r (Commit n) who next).publish ∷ []) ≡ false
commit-quiet t r next n who q quiet a b =
    touched-append q (commit_changes t r next) (commit_publish t r next ∷ []) (touched-append q (growth t r next) (first_of (roots_change r next) (roots_of next)) (growth-quiet t r next q quiet) (first-untouched (roots_change r next) (roots_of next) q a)) (or-both _ _ b refl)

-- so does an import
pub import-quiet : (t : Tree) (r next : Repo) (changes : List NewChange) (who q : List ℕ) → is_quiet q ≡ true → touched q (new_rename (new_roots next) ∷ []) ≡ false → same new_changelog_path q ≡ false → same changelog_index q ≡ false
    → touched q ((transaction_of t r (Import changes) who next).changes ++ (transaction_of t r (Import changes) who next).publish ∷ []) ≡ false
import-quiet t r next records who q quiet a b c =
    touched-append q (import_changes t r next) (import_publish ∷ []) (touched-append q (growth t r next) (Create new_changelog_path (new_changelog_index t r next) ∷ first_of (roots_change r next) (roots_of next)) (growth-quiet t r next q quiet) (or-both _ _ b (first-untouched (roots_change r next) (roots_of next) q a)))
    (or-both _ _ (or-both _ _ b c) refl)

-- where the operations behind the publishing one are done the tree stands for the next repository
pub settled-stands : (below : Below) (t : Tree) (r next : Repo) (command : Command) (who : List ℕ) (s : Stands t r) (ready : IsReady t r command next) (answer : Answer) → IsValid command → step r command ≡ Ok (next, answer)
    → Stands (after_all ((transaction_of t r command who next).renames ++ Remove journal_path ∷ []) (after_all ((transaction_of t r command who next).changes ++ (transaction_of t r command who next).publish ∷ []) (apply (transaction_of t r command who next).journal (after_all (transaction_of t r command who next).before t)))) next
settled-stands below t r next command who s ready answer valid accepted =
    let x = transaction_of t r command who next in
    let opened : Tree = apply x.journal (after_all x.before t) in
    let all_done : after_all (x.changes ++ x.publish ∷ x.renames) opened ≡ after_all x.renames (after_all (x.changes ++ x.publish ∷ []) opened) =
    sym (ap (λ l. after_all l opened) (append_assoc x.changes (x.publish ∷ []) x.renames)) ∙ after_all-append (x.changes ++ x.publish ∷ []) x.renames opened in
    subst (λ (v : Tree). Stands v next) (ap (apply (Remove journal_path)) all_done ∙ sym (after_all-append x.renames (Remove journal_path ∷ []) (after_all (x.changes ++ x.publish ∷ []) opened)))
    (removed below t r next command who s ready answer valid accepted [] removals refl)
