-- What the operations of a transaction do at a path that transactions only add to.
use Rattle.std.proofs.Common.{◌≡◌, ◌⊎◌, ℕ, List, [], ◌∷◌, ◌++◌, Bool, true, false, cond, not, map, refl, sym, ◌∙◌, ap, subst, inl, inr, reverse}
use Rattle.std.specs.Prelude.{◌==◌, Option, Some, None, codes, flat_map, is_some}
use Rattle.std.specs.List.{AllByRecursion, list_all}
use Rattle.hgs_bytes.specs.Bytes.{among, same}
use Rattle.hgs_bytes.specs.Theorems.ByteLemmas.{same-eq}
use Rattle.hgs_files.specs.declared.op.Op.{Op}
use Rattle.hgs_files.specs.declared.op.Op.TheVariants.{Append, Cut, Rename, Remove, Create, Sync, Settle}
use Rattle.hgs_files.specs.Tree.{Tree}
use Rattle.hgs_journal.specs.declared.backups.BackupLine.{BackupLine}
use Rattle.hgs_journal.specs.declared.journal.JournalLine.{JournalLine}
use Rattle.hgs_journal.specs.Names.{backup_name, backups_path, in_store, journal_path, locks, new_journal_path, new_name, place}
use Rattle.hgs_journal.specs.Texts.{backups_text, journal_text}
use Rattle.hgs_journal.specs.Undo.{undo_backup, undo_backups, undo_line, undo_list, undo_with}
use Rattle.hgs_model.specs.declared.command.Command.{Command}
use Rattle.hgs_model.specs.declared.command.Command.TheVariants.{Commit, Import, Mark, Move, Unmark}
use Rattle.hgs_model.specs.Repo.{Repo}
use Rattle.hgs_model.specs.Step.{sets_bookmark}
use Rattle.hgs_stands.specs.Places.{bookmarks_path, changelog_index, dirstate_path, roots_path}
use Rattle.hgs_ops.specs.Growth.{growth, new_changelog_entry}
use Rattle.hgs_ops.specs.Operations.{Transaction, backups_of, journal_of, lock_path, new_changelog_index, new_changelog_path, preparations, removals, roots_renamed, strays, transaction_of, wlock_path}
use Rattle.hgs_ops.specs.Replaced.{Replacement, backup_line_of, backup_put, new_bookmarks, new_dirstate, new_put, new_rename, new_roots, only_if, replacements, roots_change, standing_file}
use Rattle.hgs_ops.specs.Theorems.CommitLemmas.{growth-appends, growth-index}
use Rattle.hgs_ops.specs.Theorems.CommitTree.{is_append}
use Rattle.hgs_ops.specs.Theorems.Touch.{all-append, and-both, and-left, and-right, bool, never, only_appends, or-both, or-left, or-right, touched, touches}
use Rattle.hgs_later.specs.Later.{IsAddedTo}
use Rattle.hgs_later.proofs.Passing.{EndsInRename, shrinks, still}

-- the paths that transactions write otherwise
abbrev pub passing : List (List ℕ)
passing = locks ++ strays ++ journal_path ∷ roots_path ∷ dirstate_path ∷ bookmarks_path ∷ []

among-join : (p : List ℕ) (xs ys : List (List ℕ)) → among p xs ≡ false → among p ys ≡ false → among p (xs ++ ys) ≡ false
among-join p [] ys a b = b
among-join p (x ∷ xs) ys a b = or-both (same p x) _ (or-left _ _ a) (among-join p xs ys (or-right (same p x) _ a) b)

pub free-of : (p : List ℕ) → IsAddedTo p → among p passing ≡ false
free-of p is = among-join p locks (strays ++ journal_path ∷ roots_path ∷ dirstate_path ∷ bookmarks_path ∷ []) (or-left _ _ is.free) (among-join p strays (journal_path ∷ roots_path ∷ dirstate_path ∷ bookmarks_path ∷ []) (or-right (among p locks) _ is.free) (or-both (same p journal_path) _ is.off is.other))

module _ (p : List ℕ) (free : among p passing ≡ false) where
  -- one of these paths is another
  pub apart : (q : List ℕ) → among q passing ≡ true → same q p ≡ false
  apart q e = elim (bool (same q p)) [
    | inl h ↦ never (sym e ∙ ap (λ x. among x passing) (same-eq q p h) ∙ free)
    | inr h ↦ h
  ]

  apart-still : (q : List ℕ) → among q passing ≡ true → not (same q p) ≡ true
  apart-still q e = ap not (apart q e)

  rename-still : (from to : List ℕ) → among from passing ≡ true → among to passing ≡ true → still p (Rename from to) ≡ true
  rename-still from to a b = ap not (or-both _ _ (apart from a) (apart to b))

  -- a replaced file, its backup and its new text are at such paths
  pub record IsOwn (plain : Bool) (file : List ℕ) : Type 0 where
    pub itself : among (place plain file) passing ≡ true
    pub backup : among (place plain (backup_name file)) passing ≡ true
    pub new : among (place plain (new_name file)) passing ≡ true

  abbrev pub AreOwn : List Replacement → Type 0
  AreOwn files = AllByRecursion (λ (x : Replacement). IsOwn x.plain x.file) files

  roots-own : IsOwn false (codes "phaseroots")
  roots-own = record { itself = refl; backup = refl; new = refl }

  dirstate-own : IsOwn true (codes "dirstate")
  dirstate-own = record { itself = refl; backup = refl; new = refl }

  marks-own : IsOwn true (codes "bookmarks")
  marks-own = record { itself = refl; backup = refl; new = refl }

  if-own : (b : Bool) (x : Replacement) (more : List Replacement) → IsOwn x.plain x.file → AreOwn more → AreOwn (only_if b x ++ more)
  if-own true x more a all = (a, all)
  if-own false x more a all = all

  only-own : (b : Bool) (x : Replacement) → IsOwn x.plain x.file → AreOwn (only_if b x)
  only-own true x a = (a, tt)
  only-own false x a = tt

  files-own : (r : Repo) (command : Command) (next : Repo) → AreOwn (replacements r command next)
  files-own r (Commit n) next = if-own (roots_change r next) (new_roots next) _ roots-own (dirstate-own, only-own (is_some n.bookmark) (new_bookmarks next) marks-own)
  files-own r (Import changes) next = if-own (roots_change r next) (new_roots next) _ roots-own (dirstate-own, only-own (sets_bookmark changes) (new_bookmarks next) marks-own)
  files-own r (Move rev phase force) next = (roots-own, tt)
  files-own r (Mark name rev) next = (marks-own, tt)
  files-own r (Unmark name) next = (marks-own, tt)

  -- ---- before the journal

  put-still : (x : Replacement) (o : Option (List ℕ)) → IsOwn x.plain x.file → list_all (still p) (backup_put x o) ≡ true
  put-still x None own = refl
  put-still x (Some bytes) own = and-both _ _ (apart-still (place x.plain (backup_name x.file)) own.backup) refl

  puts-still : (t : Tree) (files : List Replacement) → AreOwn files → list_all (still p) (flat_map (λ x. backup_put x (standing_file t x)) files) ≡ true
  puts-still t [] own = refl
  puts-still t (x ∷ files) own = all-append (still p) (backup_put x (standing_file t x)) _ (put-still x (standing_file t x) own.0) (puts-still t files own.1)

  news-still : (files : List Replacement) → AreOwn files → list_all (still p) (map new_put files) ≡ true
  news-still [] own = refl
  news-still (x ∷ files) own = and-both _ _ (apart-still (place x.plain (new_name x.file)) own.0.new) (news-still files own.1)

  before-still : (t : Tree) (who : List ℕ) (files : List Replacement) (backups : List BackupLine) (text : List ℕ) → AreOwn files → list_all (still p) (preparations t who files backups text) ≡ true
  before-still t who files backups text own =
      and-both _ _ (apart-still wlock_path refl) (and-both _ _ (apart-still lock_path refl)
      (all-append (still p) (flat_map (λ x. backup_put x (standing_file t x)) files ++ map new_put files) last
      (all-append (still p) (flat_map (λ x. backup_put x (standing_file t x)) files) (map new_put files) (puts-still t files own) (news-still files own))
      (and-both _ _ (apart-still backups_path refl) (and-both _ _ (apart-still new_journal_path refl) refl))))
    where
      last : List Op
      last = Create backups_path (backups_text backups) ∷ Create new_journal_path text ∷ []

  -- ---- appends

  appends-only : (ops : List Op) → list_all is_append ops ≡ true → list_all (only_appends p) ops ≡ true
  appends-only [] e = refl
  appends-only (op ∷ ops) e = and-both _ _ (one op (and-left _ _ e)) (appends-only ops (and-right (is_append op) _ e))
    where
      one : (op : Op) → is_append op ≡ true → only_appends p op ≡ true
      one (Append path bytes) h = refl
      one (Cut path len) h = never (sym h)
      one (Rename from to) h = never (sym h)
      one (Remove path) h = never (sym h)
      one (Create path bytes) h = never (sym h)
      one (Sync path) h = never (sym h)
      one Settle h = never (sym h)

  pub still-appends : (ops : List Op) → list_all (still p) ops ≡ true → list_all (only_appends p) ops ≡ true
  still-appends [] e = refl
  still-appends (op ∷ ops) e = and-both _ _ (one op (and-left _ _ e)) (still-appends ops (and-right (still p op) _ e))
    where
      one : (op : Op) → still p op ≡ true → only_appends p op ≡ true
      one (Append path bytes) h = refl
      one (Cut path len) h = h
      one (Rename from to) h = h
      one (Remove path) h = h
      one (Create path bytes) h = h
      one (Sync path) h = refl
      one Settle h = refl

  replace-still : (x : Replacement) → IsOwn x.plain x.file → still p (new_rename x) ≡ true
  replace-still x own = rename-still (place x.plain (new_name x.file)) (place x.plain x.file) own.new own.itself

  roots-still : (r next : Repo) → list_all (still p) (roots_renamed r next) ≡ true
  roots-still r next = by (roots_change r next)
    where
      by : (b : Bool) → list_all (still p) (cond b (new_rename (new_roots next) ∷ []) []) ≡ true
      by true = and-both _ _ (replace-still (new_roots next) roots-own) refl
      by false = refl

  untouched-still : (q : List ℕ) (ops : List Op) → touched q ops ≡ false → list_all (still q) ops ≡ true
  untouched-still q [] e = refl
  untouched-still q (op ∷ ops) e = and-both _ _ (ap not (or-left (touches q op) _ e)) (untouched-still q ops (or-right (touches q op) _ e))

  -- Appends, or operations of which the last one alone, a rename, is at the path: so an import puts its new index in the place of the changelog's.
  abbrev pub GoesThrough : List Op → Type 0
  GoesThrough ops = (list_all (only_appends p) ops ≡ true) ⊎ EndsInRename p ops

  naming-still : still p (Rename new_journal_path journal_path) ≡ true
  naming-still = rename-still new_journal_path journal_path refl refl

  new-still : (t : Tree) (r next : Repo) → list_all (still p) (Create new_changelog_path (new_changelog_index t r next) ∷ roots_renamed r next) ≡ true
  new-still t r next = and-both _ _ (apart-still new_changelog_path refl) (roots-still r next)

  import-calm : (t : Tree) (r next : Repo) → same changelog_index p ≡ true → list_all (still p) (growth t r next ++ Create new_changelog_path (new_changelog_index t r next) ∷ roots_renamed r next) ≡ true
  import-calm t r next e =
      all-append (still p) (growth t r next) (Create new_changelog_path (new_changelog_index t r next) ∷ roots_renamed r next)
      (subst (λ q. list_all (still q) (growth t r next) ≡ true) (same-eq changelog_index p e) (untouched-still changelog_index (growth t r next) (growth-index t r next))) (new-still t r next)

  import-appends : (t : Tree) (r next : Repo) → same changelog_index p ≡ false → list_all (only_appends p) ((growth t r next ++ Create new_changelog_path (new_changelog_index t r next) ∷ roots_renamed r next) ++ Rename new_changelog_path changelog_index ∷ []) ≡ true
  import-appends t r next e =
      all-append (only_appends p) (growth t r next ++ Create new_changelog_path (new_changelog_index t r next) ∷ roots_renamed r next) (Rename new_changelog_path changelog_index ∷ [])
      (all-append (only_appends p) (growth t r next) (Create new_changelog_path (new_changelog_index t r next) ∷ roots_renamed r next) (appends-only (growth t r next) (growth-appends t r next))
      (still-appends (Create new_changelog_path (new_changelog_index t r next) ∷ roots_renamed r next) (new-still t r next)))
      (and-both _ _ (ap not (or-both (same new_changelog_path p) (same changelog_index p) (apart new_changelog_path refl) e)) refl)

  import-through : (t : Tree) (r next : Repo) → (same changelog_index p ≡ true) ⊎ (same changelog_index p ≡ false) → GoesThrough (Rename new_journal_path journal_path ∷ (growth t r next ++ Create new_changelog_path (new_changelog_index t r next) ∷ roots_renamed r next) ++ Rename new_changelog_path changelog_index ∷ [])
  import-through t r next (inl e) = inr (record {
    front = Rename new_journal_path journal_path ∷ (growth t r next ++ Create new_changelog_path (new_changelog_index t r next) ∷ roots_renamed r next);
    from = new_changelog_path;
    to = changelog_index;
    is = refl;
    calm = and-both _ _ naming-still (import-calm t r next e);
  })
  import-through t r next (inr e) = inl (and-both _ _ naming-still (import-appends t r next e))

  replace-through : (x : Replacement) → IsOwn x.plain x.file → list_all (only_appends p) (new_rename x ∷ []) ≡ true
  replace-through x own = still-appends (new_rename x ∷ []) (and-both _ _ (replace-still x own) refl)

  goes-through : (t : Tree) (r : Repo) (command : Command) (who : List ℕ) (next : Repo) → GoesThrough ((transaction_of t r command who next).journal ∷ (transaction_of t r command who next).changes ++ (transaction_of t r command who next).publish ∷ [])
  goes-through t r (Commit n) who next = inl (and-both _ _ naming-still (all-append (only_appends p) (growth t r next ++ roots_renamed r next) (Append changelog_index (new_changelog_entry t r next) ∷ [])
      (all-append (only_appends p) (growth t r next) (roots_renamed r next) (appends-only (growth t r next) (growth-appends t r next)) (still-appends (roots_renamed r next) (roots-still r next))) refl))
  goes-through t r (Import changes) who next = import-through t r next (bool (same changelog_index p))
  goes-through t r (Move rev phase force) who next = inl (and-both _ _ naming-still (replace-through (new_roots next) roots-own))
  goes-through t r (Mark name rev) who next = inl (and-both _ _ naming-still (replace-through (new_bookmarks next) marks-own))
  goes-through t r (Unmark name) who next = inl (and-both _ _ naming-still (replace-through (new_bookmarks next) marks-own))

  -- ---- behind

  pub removals-still : list_all (still p) removals ≡ true
  removals-still = all-removed (strays ++ lock_path ∷ wlock_path ∷ []) refl
    where
      all-removed : (paths : List (List ℕ)) → list_all (λ q. among q passing) paths ≡ true → list_all (still p) (map (λ q. Remove q) paths) ≡ true
      all-removed [] e = refl
      all-removed (q ∷ paths) e = and-both _ _ (apart-still q (and-left _ _ e)) (all-removed paths (and-right (among q passing) _ e))

  pub journal-still : still p (Remove journal_path) ≡ true
  journal-still = apart-still journal_path refl

  pub wlock-still : (who : List ℕ) → list_all (still p) (Create wlock_path who ∷ []) ≡ true
  wlock-still who = and-both _ _ (apart-still wlock_path refl) refl

  pub lock-still : (who : List ℕ) → list_all (still p) (Create lock_path who ∷ []) ≡ true
  lock-still who = and-both _ _ (apart-still lock_path refl) refl

  pub unlock-still : list_all (still p) (Remove wlock_path ∷ []) ≡ true
  unlock-still = and-both _ _ (apart-still wlock_path refl) refl

  pub unlocks-still : list_all (still p) (Remove lock_path ∷ Remove wlock_path ∷ []) ≡ true
  unlocks-still = and-both _ _ (apart-still lock_path refl) unlock-still

  mark-still : (b : Bool) (next : Repo) → list_all (still p) (only_if b (new_rename (new_bookmarks next))) ≡ true
  mark-still true next = and-both _ _ (replace-still (new_bookmarks next) marks-own) refl
  mark-still false next = refl

  renames-still : (t : Tree) (r : Repo) (command : Command) (who : List ℕ) (next : Repo) → list_all (still p) (transaction_of t r command who next).renames ≡ true
  renames-still t r (Commit n) who next = and-both _ _ (replace-still (new_dirstate next) dirstate-own) (mark-still (is_some n.bookmark) next)
  renames-still t r (Import changes) who next = and-both _ _ (replace-still (new_dirstate next) dirstate-own) (mark-still (sets_bookmark changes) next)
  renames-still t r (Move rev phase force) who next = refl
  renames-still t r (Mark name rev) who next = refl
  renames-still t r (Unmark name) who next = refl

  -- ---- undoing

  line-shrinks : (l : JournalLine) → shrinks p (undo_line l) ≡ true
  line-shrinks l = by (l.offset == 0)
    where
      by : (b : Bool) → shrinks p (cond b (Remove (in_store l.name)) (Cut (in_store l.name) l.offset)) ≡ true
      by true = refl
      by false = refl

  lines-shrink : (journal : List JournalLine) → list_all (shrinks p) (map undo_line journal) ≡ true
  lines-shrink [] = refl
  lines-shrink (l ∷ journal) = and-both _ _ (line-shrinks l) (lines-shrink journal)

  with-shrinks : (l : BackupLine) (backup kept : List ℕ) → IsOwn l.plain l.file → list_all (shrinks p) (undo_with l backup kept) ≡ true
  with-shrinks l [] kept own = refl
  with-shrinks l (b ∷ backup) kept own =
      and-both _ _ (apart-still (place l.plain (new_name l.file)) own.new) (and-both _ _ (rename-still (place l.plain (new_name l.file)) (place l.plain l.file) own.new own.itself) refl)

  backups-shrink : (t : Tree) (files : List Replacement) (kept : List (List ℕ)) → AreOwn files → list_all (shrinks p) (undo_backups (map (backup_line_of t) files) kept) ≡ true
  backups-shrink t [] kept own = refl
  backups-shrink t (x ∷ files) [] own = refl
  backups-shrink t (x ∷ files) (k ∷ kept) own =
      all-append (shrinks p) (undo_backup (backup_line_of t x) k) _ (with-shrinks (backup_line_of t x) (backup_line_of t x).backup k own.0) (backups-shrink t files kept own.1)

  list-shrinks : (t : Tree) (journal : List JournalLine) (files : List Replacement) (kept : List (List ℕ)) → AreOwn files → list_all (shrinks p) (undo_list journal (map (backup_line_of t) files) kept) ≡ true
  list-shrinks t journal files kept own =
      all-append (shrinks p) (map undo_line (reverse journal) ++ undo_backups (map (backup_line_of t) files) kept) (Remove journal_path ∷ [])
      (all-append (shrinks p) (map undo_line (reverse journal)) (undo_backups (map (backup_line_of t) files) kept) (lines-shrink (reverse journal)) (backups-shrink t files kept own)) refl

  -- ---- the whole

  pub record HasShape (x : Transaction) : Type 0 where
    pub before : list_all (still p) x.before ≡ true
    pub through : GoesThrough (x.journal ∷ x.changes ++ x.publish ∷ [])
    pub renames : list_all (still p) (x.renames ++ Remove journal_path ∷ []) ≡ true
    pub undo : list_all (shrinks p) x.undo ≡ true

  pub has-shape : (t : Tree) (r : Repo) (command : Command) (who : List ℕ) (next : Repo) → HasShape (transaction_of t r command who next)
  has-shape t r command who next = record {
    before = before-still t who (replacements r command next) (backups_of t r command next) (journal_text (journal_of t r command next)) (files-own r command next);
    through = goes-through t r command who next;
    renames = all-append (still p) (transaction_of t r command who next).renames _ (renames-still t r command who next) (and-both _ _ journal-still refl);
    undo = list-shrinks t (journal_of t r command next) (replacements r command next) _ (files-own r command next);
  }
