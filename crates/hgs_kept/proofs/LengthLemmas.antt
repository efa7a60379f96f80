-- How long a file gets that no transaction replaces.
use Rattle.std.proofs.Common.{◌≡◌, ◌⊎◌, ◌||◌, ◌≤◌, ℕ, List, [], ◌∷◌, ◌++◌, Bool, true, false, cond, not, ◌==◌, length, take, refl, sym, ◌∙◌, ap, subst, inl, inr, append-nil, arith, length-append}
use Rattle.std.proofs.lemmas.List.{take-append-drop}
use Rattle.std.specs.Prelude.{Option, Some, None, unwrap_or, map, reverse, is_some, drop, codes}
use Rattle.std.specs.List.{AllByRecursion, FoldsTo, list_all}
use Rattle.hgs_bytes.specs.Bytes.{same}
use Rattle.hgs_bytes.specs.Theorems.ByteLemmas.{same-eq, same-refl}
use Rattle.hgs_files.specs.declared.op.Op.{Op}
use Rattle.hgs_files.specs.declared.op.Op.TheVariants.{Append, Cut, Rename, Remove, Create, Sync, Settle}
use Rattle.hgs_files.specs.Log.{Does, IsPiece, append_of_rest}
use Rattle.hgs_files.specs.Theorems.LogLemmas.{after-does}
use Rattle.hgs_files.specs.Theorems.TreeLemmas.{after_all-append}
use Rattle.hgs_files.specs.Tree.{Tree, after_all, apply, bytes_at, renamed, shortened, with_file}
use Rattle.hgs_journal.specs.declared.backups.BackupLine.{BackupLine}
use Rattle.hgs_journal.specs.declared.journal.JournalLine.{JournalLine}
use Rattle.hgs_journal.specs.Names.{backup_name, backups_path, in_store, journal_path, new_name, place, new_journal_path}
use Rattle.hgs_journal.specs.Undo.{undo_backups, undo_line, undo_with}
use Rattle.hgs_model.specs.declared.command.Command.{Command}
use Rattle.hgs_model.specs.declared.command.Command.TheVariants.{Commit, Import, Mark, Move, Unmark}
use Rattle.hgs_model.specs.Step.{sets_bookmark}
use Rattle.hgs_model.specs.Repo.{Repo}
use Rattle.hgs_model.specs.Theorems.ListLemmas.{all-mapped}
use Rattle.hgs_ops.specs.Growth.{appended, growth}
use Rattle.hgs_ops.specs.Operations.{Transaction, backups_of, changes_before, journal_of, lock_path, preparations, publishing, renames_after, transaction_of, wlock_path, new_changelog_index, new_changelog_path}
use Rattle.hgs_ops.specs.Replaced.{Replacement, backup_line_of, new_bookmarks, new_dirstate, new_rename, new_roots, only_if, replacements, roots_change, standing_file}
use Rattle.hgs_ops.specs.Theorems.CommitLemmas.{growth-appends}
use Rattle.hgs_ops.specs.Theorems.CommitTree.{IsSmall, is_append, is_quiet, preparations-within}
use Rattle.hgs_ops.specs.Theorems.Touch.{all-append, and-both, and-left, and-right, appended-at, at, away, bool, never, only-untouched, only_appends, touched, touched-within}
use Rattle.hgs_stands.specs.Places.{changelog_index}
use Rattle.hgs_legal.specs.LegalLog.{Acts, Doing, Idle, IsTurn, Leaves, Preparing, Published, Refused, State, Turn, Undoing, Working, begins, breaks, breaks_after, breaks_undo, current, finished, finishes, gives_up, goes_on_knocking, goes_on_undoing, is_refused, journals, knocks, knocks_again, prepares, removes, start_of, stays, through_publishing, through_removal, undoes, undone, worked, works}
use Rattle.hgs_kept.specs.Within.{EndsWithin, GoesBy}
use Rattle.hgs_journal.specs.Texts.{journal_text}

module _ (p : List ℕ) (loud : is_quiet p ≡ false) (apart : same changelog_index p ≡ false) where
  abbrev is_other : List ℕ → Bool
  is_other path = not (same path p)

  other : (path : List ℕ) → is_quiet path ≡ true → is_other path ≡ true
  other path quiet = by (bool (same path p))
    where
      by : (same path p ≡ true) ⊎ (same path p ≡ false) → is_other path ≡ true
      by (inl e) = never (sym quiet ∙ ap is_quiet (same-eq path p e) ∙ loud)
      by (inr e) = ap not e

  -- an operation that gives the file no more bytes
  abbrev is_idle : Op → Bool
  is_idle (Append path bytes) = is_other path
  is_idle (Cut path len) = true
  is_idle (Rename from to) = is_other to
  is_idle (Remove path) = true
  is_idle (Create path bytes) = is_other path
  is_idle (Sync path) = true
  is_idle Settle = true

  abbrev AreIdle : List Op → Type 0
  AreIdle ops = list_all is_idle ops ≡ true

  abbrev AreAppends : List Op → Type 0
  AreAppends ops = list_all (only_appends p) ops ≡ true

  not-same : (path : List ℕ) → is_other path ≡ true → same path p ≡ false
  not-same path e = by (same path p) e
    where
      by : (b : Bool) → not b ≡ true → b ≡ false
      by true h = sym h
      by false h = refl

  length-of : (o : Option (List ℕ)) (f : Option (List ℕ)) → o ≡ f → length (unwrap_or o []) ≡ length (unwrap_or f [])
  length-of o f e = ap (λ (x : Option (List ℕ)). length (unwrap_or x [])) e

  put-other : (t : Tree) (path : List ℕ) (f : Option (List ℕ)) → is_other path ≡ true → length (bytes_at (with_file t path f) p) ≤ length (bytes_at t p)
  put-other t path f e = omega (arith, length-of (with_file t path f p) (t p) (away t path p f (not-same path e)))

  removed : (t : Tree) (path : List ℕ) → length (bytes_at (with_file t path None) p) ≤ length (bytes_at t p)
  removed t path = by (bool (same path p))
    where
      by : (same path p ≡ true) ⊎ (same path p ≡ false) → length (bytes_at (with_file t path None) p) ≤ length (bytes_at t p)
      by (inl e) = omega (arith, length-of (with_file t path None p) None (at t path p None e))
      by (inr e) = omega (arith, length-of (with_file t path None p) (t p) (away t path p None e))

  cut : (t : Tree) (path : List ℕ) (len : ℕ) (f : Option (List ℕ)) → t path ≡ f → length (bytes_at (shortened t path len f) p) ≤ length (bytes_at t p)
  cut t path len None e = omega arith
  cut t path len (Some bytes) e = by (bool (same path p))
    where
      by : (same path p ≡ true) ⊎ (same path p ≡ false) → length (bytes_at (with_file t path (Some (take len bytes))) p) ≤ length (bytes_at t p)
      by (inl h) =
          let now : length (bytes_at (with_file t path (Some (take len bytes))) p) ≡ length (take len bytes) = length-of (with_file t path (Some (take len bytes)) p) (Some (take len bytes)) (at t path p (Some (take len bytes)) h) in
          let before : length (bytes_at t p) ≡ length bytes = ap (λ q. length (bytes_at t q)) (sym (same-eq path p h)) ∙ length-of (t path) (Some bytes) e in
          omega (arith, now, before, length-append (take len bytes) (drop len bytes), ap length (take-append-drop len bytes))
      by (inr h) = omega (arith, length-of (with_file t path (Some (take len bytes)) p) (t p) (away t path p (Some (take len bytes)) h))

  moved : (t : Tree) (from to : List ℕ) (f : Option (List ℕ)) → is_other to ≡ true → length (bytes_at (renamed t from to f) p) ≤ length (bytes_at t p)
  moved t from to None e = omega arith
  moved t from to (Some bytes) e = omega (arith, removed t from, put-other (with_file t from None) to (Some bytes) e)

  idle-length : (op : Op) (t : Tree) → is_idle op ≡ true → length (bytes_at (apply op t) p) ≤ length (bytes_at t p)
  idle-length (Append path bytes) t e = put-other t path (Some (bytes_at t path ++ bytes)) e
  idle-length (Cut path len) t e = cut t path len (t path) refl
  idle-length (Rename from to) t e = moved t from to (t from) e
  idle-length (Remove path) t e = removed t path
  idle-length (Create path bytes) t e = put-other t path (Some bytes) e
  idle-length (Sync path) t e = omega arith
  idle-length Settle t e = omega arith

  appends-length : (ops : List Op) (t : Tree) → AreAppends ops → length (bytes_at t p) ≤ length (bytes_at (after_all ops t) p)
  appends-length ops t e = omega (arith, ap length (appended-at ops t p e), length-append (bytes_at t p) (appended p ops))

  -- ---- pieces

  rest-idle : (path back : List ℕ) → is_other path ≡ true → AreIdle (append_of_rest path back)
  rest-idle path [] e = refl
  rest-idle path (b ∷ back) e = and-both _ _ e refl

  idle-piece : (op piece : Op) (left : List Op) → is_idle op ≡ true → IsPiece op piece left → (is_idle piece ≡ true) × AreIdle left
  idle-piece (Append path bytes) piece left e h = (ap is_idle h.3 ∙ e, ap (list_all is_idle) h.4 ∙ rest-idle path h.1 e)
  idle-piece (Cut path len) piece left e h = (ap is_idle h.0 ∙ e, ap (list_all is_idle) h.1)
  idle-piece (Rename from to) piece left e h = (ap is_idle h.0 ∙ e, ap (list_all is_idle) h.1)
  idle-piece (Remove path) piece left e h = (ap is_idle h.0 ∙ e, ap (list_all is_idle) h.1)
  idle-piece (Create path bytes) piece left e h = (ap is_idle h.3 ∙ e, ap (list_all is_idle) h.4 ∙ rest-idle path h.1 e)
  idle-piece (Sync path) piece left e h = (ap is_idle h.0 ∙ e, ap (list_all is_idle) h.1)
  idle-piece Settle piece left e h = (ap is_idle h.0 ∙ e, ap (list_all is_idle) h.1)

  rest-appends : (path back : List ℕ) → AreAppends (append_of_rest path back)
  rest-appends path [] = refl
  rest-appends path (b ∷ back) = refl

  appends-piece : (op piece : Op) (left : List Op) → only_appends p op ≡ true → IsPiece op piece left → AreAppends left
  appends-piece (Append path bytes) piece left e h = ap (list_all (only_appends p)) h.4 ∙ rest-appends path h.1
  appends-piece (Cut path len) piece left e h = ap (list_all (only_appends p)) h.1
  appends-piece (Rename from to) piece left e h = ap (list_all (only_appends p)) h.1
  appends-piece (Remove path) piece left e h = ap (list_all (only_appends p)) h.1
  appends-piece (Create path bytes) piece left e h = ap (list_all (only_appends p)) h.4 ∙ rest-appends path h.1
  appends-piece (Sync path) piece left e h = ap (list_all (only_appends p)) h.1
  appends-piece Settle piece left e h = ap (list_all (only_appends p)) h.1

  does-idle : (ops left : List Op) (op : Op) → AreIdle ops → Does ops op left → (is_idle op ≡ true) × AreIdle left
  does-idle [] left op e d = absurd d
  does-idle (o ∷ ops) left op e d =
      let h = idle-piece o op d.0 (and-left _ _ e) d.1 in
      (h.0, ap (list_all is_idle) d.2 ∙ all-append is_idle d.0 ops h.1 (and-right (is_idle o) _ e))

  does-appends : (ops left : List Op) (op : Op) → AreAppends ops → Does ops op left → AreAppends left
  does-appends [] left op e d = absurd d
  does-appends (o ∷ ops) left op e d = ap (list_all (only_appends p)) d.2 ∙ all-append (only_appends p) d.0 ops (appends-piece o op d.0 (and-left _ _ e) d.1) (and-right (only_appends p o) _ e)

  -- ---- a transaction

  is_small : (x : Bool) (file : List ℕ) → is_quiet (place x (backup_name file)) ≡ true → is_quiet (place x (new_name file)) ≡ true → (is_other (place x (backup_name file)) ≡ true) × (is_other (place x (new_name file)) ≡ true)
  is_small x file a b = (other (place x (backup_name file)) a, other (place x (new_name file)) b)

  small-roots : (is_other (place false (backup_name (codes "phaseroots"))) ≡ true) × (is_other (place false (new_name (codes "phaseroots"))) ≡ true)
  small-roots = is_small false (codes "phaseroots") refl refl

  small-dirstate : (is_other (place true (backup_name (codes "dirstate"))) ≡ true) × (is_other (place true (new_name (codes "dirstate"))) ≡ true)
  small-dirstate = is_small true (codes "dirstate") refl refl

  small-marks : (is_other (place true (backup_name (codes "bookmarks"))) ≡ true) × (is_other (place true (new_name (codes "bookmarks"))) ≡ true)
  small-marks = is_small true (codes "bookmarks") refl refl

  away-roots : (is_other (place false (new_name (codes "phaseroots"))) ≡ true) × (is_other (place false (codes "phaseroots")) ≡ true)
  away-roots = (small-roots.1, other (place false (codes "phaseroots")) refl)

  away-dirstate : (is_other (place true (new_name (codes "dirstate"))) ≡ true) × (is_other (place true (codes "dirstate")) ≡ true)
  away-dirstate = (small-dirstate.1, other (place true (codes "dirstate")) refl)

  away-marks : (is_other (place true (new_name (codes "bookmarks"))) ≡ true) × (is_other (place true (codes "bookmarks")) ≡ true)
  away-marks = (small-marks.1, other (place true (codes "bookmarks")) refl)

  small-both : (next : Repo) (roots marks : Bool) → AllByRecursion (IsSmall is_other) (only_if roots (new_roots next) ++ new_dirstate next ∷ only_if marks (new_bookmarks next))
  small-both next true true = (small-roots, (small-dirstate, (small-marks, tt)))
  small-both next true false = (small-roots, (small-dirstate, tt))
  small-both next false true = (small-dirstate, (small-marks, tt))
  small-both next false false = (small-dirstate, tt)

  small : (r : Repo) (command : Command) (next : Repo) → AllByRecursion (IsSmall is_other) (replacements r command next)
  small r (Commit n) next = small-both next (roots_change r next) (is_some n.bookmark)
  small r (Import changes) next = small-both next (roots_change r next) (sets_bookmark changes)
  small r (Move rev phase force) next = (small-roots, tt)
  small r (Mark name rev) next = (small-marks, tt)
  small r (Unmark name) next = (small-marks, tt)

  pub before-touched : (t : Tree) (r : Repo) (command : Command) (who : List ℕ) (next : Repo) → touched p (transaction_of t r command who next).before ≡ false
  before-touched t r command who next =
      touched-within is_other (preparations t who (replacements r command next) (backups_of t r command next) (journal_text (journal_of t r command next))) p
      (preparations-within is_other t who (replacements r command next) (backups_of t r command next) (journal_text (journal_of t r command next)) (other wlock_path refl) (other lock_path refl) (other backups_path refl) (other new_journal_path refl) (small r command next)) (ap not (same-refl p))

  before-appends : (t : Tree) (r : Repo) (command : Command) (who : List ℕ) (next : Repo) → AreAppends (transaction_of t r command who next).before
  before-appends t r command who next =
      only-untouched (preparations t who (replacements r command next) (backups_of t r command next) (journal_text (journal_of t r command next))) p
      (touched-within is_other (preparations t who (replacements r command next) (backups_of t r command next) (journal_text (journal_of t r command next))) p
      (preparations-within is_other t who (replacements r command next) (backups_of t r command next) (journal_text (journal_of t r command next)) (other wlock_path refl) (other lock_path refl) (other backups_path refl) (other new_journal_path refl) (small r command next)) (ap not (same-refl p)))

  append-appends : (ops : List Op) → list_all is_append ops ≡ true → AreAppends ops
  append-appends [] e = refl
  append-appends (op ∷ ops) e = and-both _ _ (one op (and-left _ _ e)) (append-appends ops (and-right (is_append op) _ e))
    where
      one : (op : Op) → is_append op ≡ true → only_appends p op ≡ true
      one (Append path bytes) h = refl
      one (Cut path len) h = never (sym h)
      one (Rename from to) h = never (sym h)
      one (Remove path) h = never (sym h)
      one (Create path bytes) h = never (sym h)
      one (Sync path) h = never (sym h)
      one Settle h = never (sym h)

  -- a rename of one that is not at the file
  rename-appends : (from to : List ℕ) → (is_other from ≡ true) × (is_other to ≡ true) → only_appends p (Rename from to) ≡ true
  rename-appends from to h = by (same from p) (same to p) (not-same from h.0) (not-same to h.1)
    where
      by : (a b : Bool) → a ≡ false → b ≡ false → not (a || b) ≡ true
      by a b x y = (λ i. not (x i || y i))

  roots-append : (next : Repo) (b : Bool) → AreAppends (cond b (new_rename (new_roots next) ∷ []) [])
  roots-append next true = and-both _ _ (rename-appends (place false (new_name (codes "phaseroots"))) (place false (codes "phaseroots")) away-roots) refl
  roots-append next false = refl

  changes-appends : (t : Tree) (r : Repo) (command : Command) (next : Repo) → AreAppends (changes_before t r command next)
  changes-appends t r (Commit n) next = all-append (only_appends p) (growth t r next) _ (append-appends (growth t r next) (growth-appends t r next)) (roots-append next (roots_change r next))
  changes-appends t r (Import changes) next =
      all-append (only_appends p) (growth t r next) (Create new_changelog_path (new_changelog_index t r next) ∷ cond (roots_change r next) (new_rename (new_roots next) ∷ []) []) (append-appends (growth t r next) (growth-appends t r next))
      (and-both _ _ (other new_changelog_path refl) (roots-append next (roots_change r next)))
  changes-appends t r (Move rev phase force) next = refl
  changes-appends t r (Mark name rev) next = refl
  changes-appends t r (Unmark name) next = refl

  publish-appends : (t : Tree) (r : Repo) (command : Command) (next : Repo) → only_appends p (publishing t r command next) ≡ true
  publish-appends t r (Commit n) next = refl
  publish-appends t r (Import changes) next = rename-appends new_changelog_path changelog_index (other new_changelog_path refl, ap not apart)
  publish-appends t r (Move rev phase force) next = rename-appends (place false (new_name (codes "phaseroots"))) (place false (codes "phaseroots")) away-roots
  publish-appends t r (Mark name rev) next = rename-appends (place true (new_name (codes "bookmarks"))) (place true (codes "bookmarks")) away-marks
  publish-appends t r (Unmark name) next = rename-appends (place true (new_name (codes "bookmarks"))) (place true (codes "bookmarks")) away-marks

  pub all-appends : (t : Tree) (r : Repo) (command : Command) (who : List ℕ) (next : Repo) → AreAppends ((transaction_of t r command who next).before ++ through_publishing (transaction_of t r command who next))
  all-appends t r command who next =
      all-append (only_appends p) (transaction_of t r command who next).before (through_publishing (transaction_of t r command who next)) (before-appends t r command who next)
      (and-both _ _ (rename-appends new_journal_path journal_path (other new_journal_path refl, other journal_path refl)) (all-append (only_appends p) (changes_before t r command next) (publishing t r command next ∷ []) (changes-appends t r command next) (and-both _ _ (publish-appends t r command next) refl)))

  behind-idle : (next : Repo) (marks : Bool) → AreIdle (new_rename (new_dirstate next) ∷ only_if marks (new_rename (new_bookmarks next)))
  behind-idle next true = and-both _ _ away-dirstate.1 (and-both _ _ away-marks.1 refl)
  behind-idle next false = and-both _ _ away-dirstate.1 refl

  settles : (t : Tree) (r : Repo) (command : Command) (who : List ℕ) (next : Repo) → AreIdle (through_removal (transaction_of t r command who next))
  settles t r command who next = all-append is_idle (renames_after command next) (Remove journal_path ∷ []) (renames command) refl
    where
      renames : (command : Command) → AreIdle (renames_after command next)
      renames (Commit n) = behind-idle next (is_some n.bookmark)
      renames (Import changes) = behind-idle next (sets_bookmark changes)
      renames (Move rev phase force) = refl
      renames (Mark name rev) = refl
      renames (Unmark name) = refl

  -- ---- undoing

  abbrev IsAway : BackupLine → Type 0
  IsAway l = (is_other (place l.plain (new_name l.file)) ≡ true) × (is_other (place l.plain l.file) ≡ true)

  lines-idle : (lines : List JournalLine) → AreIdle (map undo_line lines)
  lines-idle [] = refl
  lines-idle (l ∷ lines) = and-both _ _ (one (l.offset == 0)) (lines-idle lines)
    where
      one : (b : Bool) → is_idle (cond b (Remove (in_store l.name)) (Cut (in_store l.name) l.offset)) ≡ true
      one true = refl
      one false = refl

  with-idle : (l : BackupLine) (kept backup : List ℕ) → IsAway l → AreIdle (undo_with l backup kept)
  with-idle l kept [] away = refl
  with-idle l kept (b ∷ backup) away = and-both _ _ away.0 (and-both _ _ away.1 refl)

  backups-idle : (lines : List BackupLine) (kept : List (List ℕ)) → AllByRecursion IsAway lines → AreIdle (undo_backups lines kept)
  backups-idle [] kept all = refl
  backups-idle (l ∷ lines) [] all = refl
  backups-idle (l ∷ lines) (k ∷ kept) all = all-append is_idle (undo_with l l.backup k) (undo_backups lines kept) (with-idle l k l.backup all.0) (backups-idle lines kept all.1)

  away-both : (t : Tree) (next : Repo) (roots marks : Bool) → AllByRecursion (λ (x : Replacement). IsAway (backup_line_of t x)) (only_if roots (new_roots next) ++ new_dirstate next ∷ only_if marks (new_bookmarks next))
  away-both t next true true = (away-roots, (away-dirstate, (away-marks, tt)))
  away-both t next true false = (away-roots, (away-dirstate, tt))
  away-both t next false true = (away-dirstate, (away-marks, tt))
  away-both t next false false = (away-dirstate, tt)

  away-files : (t : Tree) (r : Repo) (command : Command) (next : Repo) → AllByRecursion (λ (x : Replacement). IsAway (backup_line_of t x)) (replacements r command next)
  away-files t r (Commit n) next = away-both t next (roots_change r next) (is_some n.bookmark)
  away-files t r (Import changes) next = away-both t next (roots_change r next) (sets_bookmark changes)
  away-files t r (Move rev phase force) next = (away-roots, tt)
  away-files t r (Mark name rev) next = (away-marks, tt)
  away-files t r (Unmark name) next = (away-marks, tt)

  undo-idle : (t : Tree) (r : Repo) (command : Command) (who : List ℕ) (next : Repo) → AreIdle (transaction_of t r command who next).undo
  undo-idle t r command who next =
      all-append is_idle (map undo_line (reverse journal) ++ undo_backups (backups_of t r command next) kept) (Remove journal_path ∷ [])
      (all-append is_idle (map undo_line (reverse journal)) (undo_backups (backups_of t r command next) kept) (lines-idle (reverse journal)) (backups-idle (backups_of t r command next) kept (all-mapped IsAway (backup_line_of t) (replacements r command next) (away-files t r command next)))) refl
    where
      journal : List JournalLine
      journal = journal_of t r command next

      kept : List (List ℕ)
      kept = map (λ x. unwrap_or (standing_file t x) []) (replacements r command next)

  -- ---- runs

  module _ (most : ℕ) where
    abbrev IsShort : Tree → Type 0
    IsShort u = length (bytes_at u p) ≤ most

    -- these operations only append to the file, which has no more bytes behind them
    abbrev IsComing : List Op → Tree → Type 0
    IsComing ops u = AreAppends ops × IsShort (after_all ops u)

    abbrev IsSettled : Turn → Type 0
    IsSettled x = AreIdle (through_removal x.ops) × AreIdle x.ops.undo

    abbrev Kept : Doing → Tree → Type 0
    Kept (Idle left rest) u = IsShort u
    Kept (Refused left creation rest) u = IsShort u × AreIdle creation
    Kept (Preparing x left) u = IsComing (left ++ through_publishing x.ops) u × IsSettled x
    Kept (Working x left) u = IsComing left u × IsSettled x
    Kept (Published x left) u = IsShort u × AreIdle left
    Kept (Undoing left) u = IsShort u × AreIdle left

    coming : (t : Tree) (r : Repo) (x : Turn) → IsTurn t r x → IsShort t → EndsWithin p most t r x → IsComing (x.ops.before ++ through_publishing x.ops) t
    coming t r x it short ends = (subst (λ (ops : Transaction). AreAppends (ops.before ++ through_publishing ops)) (sym it.listed) (all-appends t r x.command x.who x.next), ends short)

    settled : (t : Tree) (r : Repo) (x : Turn) → IsTurn t r x → IsSettled x
    settled t r x it = (
      subst (λ (ops : Transaction). AreIdle (through_removal ops)) (sym it.listed) (settles t r x.command x.who x.next),
      subst (λ (ops : Transaction). AreIdle ops.undo) (sym it.listed) (undo-idle t r x.command x.who x.next),
    )

    coming-now : (ops : List Op) (u : Tree) → IsComing ops u → IsShort u
    coming-now ops u c = omega (arith, appends-length ops u c.0, c.1)

    front-appends : (xs ys : List Op) → AreAppends (xs ++ ys) → AreAppends xs
    front-appends [] ys h = refl
    front-appends (y ∷ xs) ys h = and-both _ _ (and-left _ _ h) (front-appends xs ys (and-right (only_appends p y) _ h))

    back-appends : (xs ys : List Op) → AreAppends (xs ++ ys) → AreAppends ys
    back-appends [] ys h = h
    back-appends (y ∷ xs) ys h = back-appends xs ys (and-right (only_appends p y) _ h)

    coming-does : (ops left rest : List Op) (op : Op) (u : Tree) → IsComing (ops ++ rest) u → Does ops op left → IsComing (left ++ rest) (apply op u)
    coming-does ops left rest op u c d = (
      all-append (only_appends p) left rest (does-appends ops left op (front-appends ops rest c.0) d) (back-appends ops rest c.0),
      subst IsShort (after_all-append ops rest u ∙ ap (after_all rest) (sym (after-does ops left op u d)) ∙ sym (after_all-append left rest (apply op u))) c.1,
    )

    coming-one : (ops left : List Op) (op : Op) (u : Tree) → IsComing ops u → Does ops op left → IsComing left (apply op u)
    coming-one ops left op u c d = subst (λ (l : List Op). IsComing l (apply op u)) (append-nil left) (coming-does ops left [] op u (subst (λ (l : List Op). IsComing l u) (sym (append-nil ops)) c) d)

    idle-kept : (op : Op) (u : Tree) → is_idle op ≡ true → IsShort u → IsShort (apply op u)
    idle-kept op u e h = omega (arith, idle-length op u e, h)

    leaves-kept : (d d' : Doing) (u : Tree) → Leaves d d' → Kept d u → Kept d' u
    leaves-kept d _ u stays k = k
    leaves-kept _ _ u (gives_up {x = x} {left = left}) k = coming-now (left ++ through_publishing x.ops) u k.0
    leaves-kept _ _ u (breaks {x = x} {op = op} {left = left}) k = coming-now (op ∷ left) u k.0
    leaves-kept _ _ u breaks_after k = k.0
    leaves-kept _ _ u breaks_undo k = k.0
    leaves-kept _ _ u is_refused k = k.0

    last-kept : (x : Turn) (left : List Op) (u : Tree) → IsComing left u → IsSettled x → Kept (worked x left) u
    last-kept x [] u c s = (c.1, s.0)
    last-kept x (op ∷ left) u c s = (c, s)

    finished-kept : (x : Turn) (left : List Op) (u : Tree) → IsShort u → AreIdle left → Kept (finished x left) u
    finished-kept x [] u k h = k
    finished-kept x (op ∷ left) u k h = (k, h)

    undone-kept : (left : List Op) (u : Tree) → IsShort u → AreIdle left → Kept (undone left) u
    undone-kept [] u k h = k
    undone-kept (op ∷ left) u k h = (k, h)

    acts-kept : (d : Doing) (u : Tree) (r : Repo) (op : Op) (news : List Turn) (d' : Doing) → Acts u r d op news d' → ((x : Turn) (left rest : List Op) → d ≡ Idle None rest → d' ≡ Preparing x left → EndsWithin p most u r x) → Kept d u → Kept d' (apply op u)
    acts-kept _ u r op _ _ (begins {rest = rest} {x = x} {left = left} it does) met k = (coming-does x.ops.before left (through_publishing x.ops) op u (coming u r x it k (met x left rest refl refl)) does, settled u r x it)
    acts-kept _ u r op _ _ (prepares {x = x} {to_do = to_do} {left = left} does) met k = (coming-does to_do left (through_publishing x.ops) op u k.0 does, k.1)
    acts-kept _ u r op _ _ (journals {x = x} {left = left} does) met k = (coming-one (through_publishing x.ops) left op u k.0 does, k.1)
    acts-kept _ u r op _ _ (works {x = x} {to_do = to_do} left does) met k = last-kept x left (apply op u) (coming-one to_do left op u k.0 does) k.1
    acts-kept _ u r op _ _ (finishes {x = x} {to_do = to_do} left does) met k = let h = does-idle to_do left op k.1 does in finished-kept x left (apply op u) (idle-kept op u h.0 k.0) h.1
    acts-kept _ u r op _ _ (undoes {x = x} {o = o} {rest = rest} left does) met k = let h = does-idle x.ops.undo left op k.1.1 does in undone-kept left (apply op u) (idle-kept op u h.0 (coming-now (o ∷ rest) u k.0)) h.1
    acts-kept _ u r op _ _ (goes_on_undoing {to_do = to_do} left does) met k = let h = does-idle to_do left op k.1 does in undone-kept left (apply op u) (idle-kept op u h.0 k.0) h.1
    acts-kept _ u r _ _ _ (removes {path = path} skipped e) met k = idle-kept (Remove path) u refl k
    acts-kept _ u r op _ _ (knocks {creation = creation} who does) met k = let h = does-idle (Create wlock_path who ∷ []) creation op (and-both _ _ (other wlock_path refl) refl) does in (idle-kept op u h.0 k, h.1)
    acts-kept _ u r op _ _ (knocks_again {creation = creation} who does) met k = let h = does-idle (Create lock_path who ∷ []) creation op (and-both _ _ (other lock_path refl) refl) does in (idle-kept op u h.0 k.0, h.1)
    acts-kept _ u r op _ _ (goes_on_knocking {to_do = to_do} {creation = creation} does) met k = let h = does-idle to_do creation op k.1 does in (idle-kept op u h.0 k.0, h.1)

    run-kept : (s : State) (log : List Op) (s' : State) → FoldsTo (GoesBy (EndsWithin p most)) s log s' → Kept s.doing s.files → Kept s'.doing s'.files
    run-kept s [] s' h k = subst (λ (q : State). Kept q.doing q.files) h k
    run-kept s (op ∷ log) s' h k =
        let go = h.1 in
        run-kept h.0 log s' h.2
        (subst (λ (u : Tree). Kept h.0.doing u) (sym go.goes.files)
        (acts-kept go.goes.there s.files (current s) op go.goes.news h.0.doing go.goes.acts go.met (leaves-kept s.doing go.goes.there s.files go.goes.leaves k)))

    short-of : (d : Doing) (u : Tree) → Kept d u → IsShort u
    short-of (Idle left rest) u k = k
    short-of (Refused left creation rest) u k = k.0
    short-of (Preparing x left) u k = coming-now (left ++ through_publishing x.ops) u k.0
    short-of (Working x left) u k = coming-now left u k.0
    short-of (Published x left) u k = k.0
    short-of (Undoing left) u k = k.0

    pub run-short : (t : Tree) (r : Repo) (log : List Op) (s : State) → IsShort t → FoldsTo (GoesBy (EndsWithin p most)) (start_of t r) log s → IsShort s.files
    run-short t r log s short run = short-of s.doing s.files (run-kept (start_of t r) log s run short)
