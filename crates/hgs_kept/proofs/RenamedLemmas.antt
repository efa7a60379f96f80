-- A file that transactions replace stays within a number of bytes.
use Rattle.std.proofs.Common.{◌≡◌, ◌⊎◌, ◌≤◌, ℕ, List, [], ◌∷◌, ◌++◌, Bool, true, false, cond, ◌==◌, length, refl, sym, ◌∙◌, ap, subst, inl, inr, append_assoc}
use Rattle.std.specs.Prelude.{Option, Some, None, unwrap_or, map, flat_map, reverse, is_some, codes}
use Rattle.std.specs.List.{AllByRecursion, FoldsTo, list_all}
use Rattle.hgs_bytes.specs.Bytes.{same}
use Rattle.hgs_bytes.specs.Theorems.ByteLemmas.{same-eq}
use Rattle.hgs_files.specs.declared.op.Op.{Op}
use Rattle.hgs_files.specs.declared.op.Op.TheVariants.{Append, Cut, Rename, Remove, Create, Sync, Settle}
use Rattle.hgs_files.specs.Log.{Does}
use Rattle.hgs_files.specs.Tree.{Tree, apply}
use Rattle.hgs_journal.specs.declared.backups.BackupLine.{BackupLine}
use Rattle.hgs_journal.specs.declared.journal.JournalLine.{JournalLine}
use Rattle.hgs_journal.specs.Names.{backup_name, backups_path, in_store, journal_path, new_name, place, new_journal_path}
use Rattle.hgs_journal.specs.Texts.{backups_text, journal_text}
use Rattle.hgs_journal.specs.Undo.{undo_backups, undo_line, undo_with}
use Rattle.hgs_model.specs.declared.command.Command.{Command}
use Rattle.hgs_model.specs.declared.command.Command.TheVariants.{Commit, Import, Mark, Move, Unmark}
use Rattle.hgs_model.specs.Step.{sets_bookmark}
use Rattle.hgs_model.specs.Repo.{Repo}
use Rattle.hgs_model.specs.Theorems.ListLemmas.{all-join}
use Rattle.hgs_ops.specs.Growth.{growth}
use Rattle.hgs_ops.specs.Operations.{Transaction, backups_of, changes_before, journal_of, lock_path, preparations, publishing, renames_after, transaction_of, wlock_path, new_changelog_index, new_changelog_path}
use Rattle.hgs_ops.specs.Replaced.{Replacement, backup_line_of, backup_put, new_bookmarks, new_dirstate, new_put, new_rename, new_roots, only_if, replacements, roots_change, standing_file}
use Rattle.hgs_ops.specs.Theorems.CommitLemmas.{growth-appends, growth-quiet}
use Rattle.hgs_ops.specs.Theorems.CommitTree.{is_append, is_quiet}
use Rattle.hgs_ops.specs.Theorems.Touch.{and-left, and-right, never, or-left, or-right, touched, touches}
use Rattle.hgs_stands.specs.Places.{changelog_index}
use Rattle.hgs_legal.specs.LegalLog.{Acts, Doing, Idle, IsTurn, Leaves, Preparing, Published, Refused, State, Turn, Undoing, Working, begins, breaks, breaks_after, breaks_undo, current, finished, finishes, gives_up, goes_on_knocking, goes_on_undoing, is_refused, journals, knocks, knocks_again, prepares, removes, start_of, stays, through_publishing, through_removal, undoes, undone, worked, works}
use Rattle.hgs_kept.specs.Within.{GoesBy, WritesWithin}
use Rattle.hgs_kept.proofs.ReplacedLemmas.{Both, Ok, Safe, Short, does-both, ok-safe}

-- Of a file that is replaced: its backup is neither of the two, its new text is the second one only where it is the first itself, and
-- only then comes to that.
pub record IsApart (b nb : List ℕ) (plain : Bool) (file : List ℕ) : Type 0 where
  pub backup : (same (place plain (backup_name file)) b ≡ false) × (same (place plain (backup_name file)) nb ≡ false)
  pub text : (same (place plain (new_name file)) b ≡ false) × ((same (place plain (new_name file)) nb ≡ false) ⊎ (same (place plain file) b ≡ true))
  pub itself : ((same (place plain file) b ≡ false) ⊎ (place plain (new_name file) ≡ nb)) × (same (place plain file) nb ≡ false)

pub record AreApart (b nb : List ℕ) : Type 0 where
  pub quiet : (is_quiet b ≡ true) × (is_quiet nb ≡ true)
  pub wlock : (same wlock_path b ≡ false) × (same wlock_path nb ≡ false)
  pub lock : (same lock_path b ≡ false) × (same lock_path nb ≡ false)
  pub backups : (same backups_path b ≡ false) × (same backups_path nb ≡ false)
  pub journal : (same journal_path b ≡ false) × (same journal_path nb ≡ false)
  pub named : (same new_journal_path b ≡ false) × (same new_journal_path nb ≡ false)
  pub made : (same new_changelog_path b ≡ false) × (same new_changelog_path nb ≡ false)
  pub index : (same changelog_index b ≡ false) × (same changelog_index nb ≡ false)
  pub roots : IsApart b nb false (codes "phaseroots")
  pub dirstate : IsApart b nb true (codes "dirstate")
  pub marks : IsApart b nb true (codes "bookmarks")

module _ (most : ℕ) (b nb : List ℕ) (facts : AreApart b nb) where
  abbrev Good : List Op → Type 0
  Good ops = AllByRecursion (Ok most b nb) ops

  abbrev IsFile : Replacement → Type 0
  IsFile y = IsApart b nb y.plain y.file

  abbrev IsFew : Replacement → Type 0
  IsFew y = same (place y.plain y.file) b ≡ true → length y.text ≤ most

  files-both : (next : Repo) (roots marks : Bool) → AllByRecursion IsFile (only_if roots (new_roots next) ++ new_dirstate next ∷ only_if marks (new_bookmarks next))
  files-both next true true = (facts.roots, (facts.dirstate, (facts.marks, tt)))
  files-both next true false = (facts.roots, (facts.dirstate, tt))
  files-both next false true = (facts.dirstate, (facts.marks, tt))
  files-both next false false = (facts.dirstate, tt)

  files : (r : Repo) (command : Command) (next : Repo) → AllByRecursion IsFile (replacements r command next)
  files r (Commit n) next = files-both next (roots_change r next) (is_some n.bookmark)
  files r (Import changes) next = files-both next (roots_change r next) (sets_bookmark changes)
  files r (Move rev phase force) next = (facts.roots, tt)
  files r (Mark name rev) next = (facts.marks, tt)
  files r (Unmark name) next = (facts.marks, tt)

  backups-good : (t : Tree) (ys : List Replacement) → AllByRecursion IsFile ys → Good (flat_map (λ x. backup_put x (standing_file t x)) ys)
  backups-good t [] all = tt
  backups-good t (y ∷ ys) all = all-join (Ok most b nb) (backup_put y (standing_file t y)) _ (one (standing_file t y)) (backups-good t ys all.1)
    where
      one : (o : Option (List ℕ)) → Good (backup_put y o)
      one None = tt
      one (Some bytes) = ((all.0.backup.0, inl all.0.backup.1), tt)

  puts-good : (ys : List Replacement) → AllByRecursion IsFile ys → AllByRecursion IsFew ys → Good (map new_put ys)
  puts-good [] all few = tt
  puts-good (y ∷ ys) all few = ((all.0.text.0, by all.0.text.1), puts-good ys all.1 few.1)
    where
      by : (same (place y.plain (new_name y.file)) nb ≡ false) ⊎ (same (place y.plain y.file) b ≡ true) → (same (place y.plain (new_name y.file)) nb ≡ false) ⊎ (length y.text ≤ most)
      by (inl e) = inl e
      by (inr e) = inr (few.0 e)

  before-good : (t : Tree) (who : List ℕ) (ys : List Replacement) (lines : List BackupLine) (text : List ℕ) → AllByRecursion IsFile ys → AllByRecursion IsFew ys → Good (preparations t who ys lines text)
  before-good t who ys lines text all few =
      all-join (Ok most b nb) ((Create wlock_path who ∷ Create lock_path who ∷ flat_map (λ x. backup_put x (standing_file t x)) ys) ++ map new_put ys) (Create backups_path (backups_text lines) ∷ Create new_journal_path text ∷ [])
      (all-join (Ok most b nb) (Create wlock_path who ∷ Create lock_path who ∷ flat_map (λ x. backup_put x (standing_file t x)) ys) (map new_put ys)
      ((facts.wlock.0, inl facts.wlock.1), ((facts.lock.0, inl facts.lock.1), backups-good t ys all)) (puts-good ys all few))
      ((facts.backups.0, inl facts.backups.1), ((facts.named.0, inl facts.named.1), tt))

  appends-good : (ops : List Op) → list_all is_append ops ≡ true → touched b ops ≡ false → touched nb ops ≡ false → Good ops
  appends-good [] e f g = tt
  appends-good (op ∷ ops) e f g = (one op (and-left _ _ e) (or-left _ _ f) (or-left _ _ g), appends-good ops (and-right (is_append op) _ e) (or-right (touches b op) _ f) (or-right (touches nb op) _ g))
    where
      one : (op : Op) → is_append op ≡ true → touches b op ≡ false → touches nb op ≡ false → Ok most b nb op
      one (Append path bytes) h f g = (f, g)
      one (Cut path len) h f g = never (sym h)
      one (Rename from to) h f g = never (sym h)
      one (Remove path) h f g = never (sym h)
      one (Create path bytes) h f g = never (sym h)
      one (Sync path) h f g = never (sym h)
      one Settle h f g = never (sym h)

  roots-good : (next : Repo) (x : Bool) → Good (cond x (new_rename (new_roots next) ∷ []) [])
  roots-good next true = (facts.roots.itself, tt)
  roots-good next false = tt

  growth-good : (t : Tree) (r next : Repo) → Good (growth t r next)
  growth-good t r next = appends-good (growth t r next) (growth-appends t r next) (growth-quiet t r next b facts.quiet.0) (growth-quiet t r next nb facts.quiet.1)

  changes-good : (t : Tree) (r : Repo) (command : Command) (next : Repo) → Good (changes_before t r command next)
  changes-good t r (Commit n) next = all-join (Ok most b nb) (growth t r next) _ (growth-good t r next) (roots-good next (roots_change r next))
  changes-good t r (Import changes) next =
      all-join (Ok most b nb) (growth t r next) (Create new_changelog_path (new_changelog_index t r next) ∷ cond (roots_change r next) (new_rename (new_roots next) ∷ []) []) (growth-good t r next)
      ((facts.made.0, inl facts.made.1), roots-good next (roots_change r next))
  changes-good t r (Move rev phase force) next = tt
  changes-good t r (Mark name rev) next = tt
  changes-good t r (Unmark name) next = tt

  publish-good : (t : Tree) (r : Repo) (command : Command) (next : Repo) → Ok most b nb (publishing t r command next)
  publish-good t r (Commit n) next = facts.index
  publish-good t r (Import changes) next = (inl facts.index.0, facts.index.1)
  publish-good t r (Move rev phase force) next = facts.roots.itself
  publish-good t r (Mark name rev) next = facts.marks.itself
  publish-good t r (Unmark name) next = facts.marks.itself

  whole-good : (t : Tree) (r : Repo) (command : Command) (who : List ℕ) (next : Repo) → AllByRecursion IsFew (replacements r command next) → Good ((transaction_of t r command who next).before ++ through_publishing (transaction_of t r command who next))
  whole-good t r command who next few =
      all-join (Ok most b nb) (transaction_of t r command who next).before (through_publishing (transaction_of t r command who next))
      (before-good t who (replacements r command next) (backups_of t r command next) (journal_text (journal_of t r command next)) (files r command next) few)
      ((inl facts.journal.0, facts.journal.1), all-join (Ok most b nb) (changes_before t r command next) (publishing t r command next ∷ []) (changes-good t r command next) (publish-good t r command next, tt))

  removal-good : (t : Tree) (r : Repo) (command : Command) (who : List ℕ) (next : Repo) → Good (through_removal (transaction_of t r command who next))
  removal-good t r command who next = all-join (Ok most b nb) (renames_after command next) (Remove journal_path ∷ []) (renames command) (tt, tt)
    where
      behind : (x : Bool) → Good (new_rename (new_dirstate next) ∷ only_if x (new_rename (new_bookmarks next)))
      behind true = (facts.dirstate.itself, (facts.marks.itself, tt))
      behind false = (facts.dirstate.itself, tt)

      renames : (command : Command) → Good (renames_after command next)
      renames (Commit n) = behind (is_some n.bookmark)
      renames (Import changes) = behind (sets_bookmark changes)
      renames (Move rev phase force) = tt
      renames (Mark name rev) = tt
      renames (Unmark name) = tt

  lines-good : (lines : List JournalLine) → Good (map undo_line lines)
  lines-good [] = tt
  lines-good (l ∷ lines) = (one (l.offset == 0), lines-good lines)
    where
      one : (x : Bool) → Ok most b nb (cond x (Remove (in_store l.name)) (Cut (in_store l.name) l.offset))
      one true = tt
      one false = tt

  kept-good : (t : Tree) (ys : List Replacement) → AllByRecursion IsFile ys → Short most b t → Good (undo_backups (map (backup_line_of t) ys) (map (λ x. unwrap_or (standing_file t x) []) ys))
  kept-good t [] all h = tt
  kept-good t (y ∷ ys) all h = all-join (Ok most b nb) (undo_with (backup_line_of t y) (backup_line_of t y).backup (unwrap_or (standing_file t y) [])) _ (one (backup_line_of t y).backup) (kept-good t ys all.1 h)
    where
      by : (same (place y.plain (new_name y.file)) nb ≡ false) ⊎ (same (place y.plain y.file) b ≡ true) → (same (place y.plain (new_name y.file)) nb ≡ false) ⊎ (length (unwrap_or (standing_file t y) []) ≤ most)
      by (inl e) = inl e
      by (inr e) = inr (subst (λ q. Short most q t) (sym (same-eq (place y.plain y.file) b e)) h)

      one : (backup : List ℕ) → Good (undo_with (backup_line_of t y) backup (unwrap_or (standing_file t y) []))
      one [] = (tt, tt)
      one (x ∷ backup) = ((all.0.text.0, by all.0.text.1), (all.0.itself, tt))

  undo-good : (t : Tree) (r : Repo) (command : Command) (who : List ℕ) (next : Repo) → Short most b t → Good (transaction_of t r command who next).undo
  undo-good t r command who next h =
      all-join (Ok most b nb) (map undo_line (reverse (journal_of t r command next)) ++ undo_backups (backups_of t r command next) (map (λ x. unwrap_or (standing_file t x) []) (replacements r command next))) (Remove journal_path ∷ [])
      (all-join (Ok most b nb) (map undo_line (reverse (journal_of t r command next))) (undo_backups (backups_of t r command next) (map (λ x. unwrap_or (standing_file t x) []) (replacements r command next)))
      (lines-good (reverse (journal_of t r command next))) (kept-good t (replacements r command next) (files r command next) h)) (tt, tt)

  -- ---- runs

  abbrev IsSettled : Turn → Type 0
  IsSettled x = Good (through_removal x.ops) × Good x.ops.undo

  abbrev Kept : Doing → Tree → Type 0
  Kept (Idle left rest) u = Both most b nb u
  Kept (Refused left creation rest) u = Both most b nb u × Safe most b nb creation u
  Kept (Preparing x left) u = (Both most b nb u × Safe most b nb (left ++ through_publishing x.ops) u) × IsSettled x
  Kept (Working x left) u = (Both most b nb u × Safe most b nb left u) × IsSettled x
  Kept (Published x left) u = Both most b nb u × Safe most b nb left u
  Kept (Undoing left) u = Both most b nb u × Safe most b nb left u

  does-front : (ops left more : List Op) (op : Op) → Does ops op left → Does (ops ++ more) op (left ++ more)
  does-front [] left more op d = absurd d
  does-front (o ∷ ops) left more op d = (d.0, d.1, ap (λ (l : List Op). l ++ more) d.2 ∙ append_assoc d.0 ops more)

  does-kept : (ops left : List Op) (op : Op) (u : Tree) → Both most b nb u × Safe most b nb ops u → Does ops op left → Both most b nb (apply op u) × Safe most b nb left (apply op u)
  does-kept ops left op u k d = does-both most b nb ops left op u k.0 k.1 d

  leaves-kept : (d d' : Doing) (u : Tree) → Leaves d d' → Kept d u → Kept d' u
  leaves-kept d _ u stays k = k
  leaves-kept _ _ u gives_up k = k.0.0
  leaves-kept _ _ u breaks k = k.0.0
  leaves-kept _ _ u breaks_after k = k.0
  leaves-kept _ _ u breaks_undo k = k.0
  leaves-kept _ _ u is_refused k = k.0

  last-kept : (x : Turn) (left : List Op) (u : Tree) → Both most b nb u × Safe most b nb left u → IsSettled x → Kept (worked x left) u
  last-kept x [] u c s = (c.0, ok-safe most b nb (through_removal x.ops) u s.0 c.0)
  last-kept x (op ∷ left) u c s = (c, s)

  finished-kept : (x : Turn) (left : List Op) (u : Tree) → Both most b nb u × Safe most b nb left u → Kept (finished x left) u
  finished-kept x [] u k = k.0
  finished-kept x (op ∷ left) u k = k

  undone-kept : (left : List Op) (u : Tree) → Both most b nb u × Safe most b nb left u → Kept (undone left) u
  undone-kept [] u k = k.0
  undone-kept (op ∷ left) u k = k

  begun : (t : Tree) (r : Repo) (x : Turn) → IsTurn t r x → WritesWithin b most t r x → Both most b nb t → (Both most b nb t × Safe most b nb (x.ops.before ++ through_publishing x.ops) t) × IsSettled x
  begun t r x it few h = (
    (h, ok-safe most b nb (x.ops.before ++ through_publishing x.ops) t (subst (λ (ops : Transaction). Good (ops.before ++ through_publishing ops)) (sym it.listed) (whole-good t r x.command x.who x.next few)) h),
    (
      subst (λ (ops : Transaction). Good (through_removal ops)) (sym it.listed) (removal-good t r x.command x.who x.next),
      subst (λ (ops : Transaction). Good ops.undo) (sym it.listed) (undo-good t r x.command x.who x.next h.0),
    ),
  )

  removes-kept : (path : List ℕ) (u : Tree) → Both most b nb u → Both most b nb (apply (Remove path) u)
  removes-kept path u h = (ok-safe most b nb (Remove path ∷ []) u (tt, tt) h).0

  acts-kept : (d : Doing) (u : Tree) (r : Repo) (op : Op) (news : List Turn) (d' : Doing) → Acts u r d op news d' → ((x : Turn) (left rest : List Op) → d ≡ Idle None rest → d' ≡ Preparing x left → WritesWithin b most u r x) → Kept d u → Kept d' (apply op u)
  acts-kept _ u r op _ _ (begins {rest = rest} {x = x} {left = left} it does) met k =
      let g = begun u r x it (met x left rest refl refl) k in
      (does-kept (x.ops.before ++ through_publishing x.ops) (left ++ through_publishing x.ops) op u g.0 (does-front x.ops.before left (through_publishing x.ops) op does), g.1)
  acts-kept _ u r op _ _ (prepares {x = x} {to_do = to_do} {left = left} does) met k = (does-kept (to_do ++ through_publishing x.ops) (left ++ through_publishing x.ops) op u k.0 (does-front to_do left (through_publishing x.ops) op does), k.1)
  acts-kept _ u r op _ _ (journals {x = x} {left = left} does) met k = (does-kept (through_publishing x.ops) left op u k.0 does, k.1)
  acts-kept _ u r op _ _ (works {x = x} {to_do = to_do} left does) met k = last-kept x left (apply op u) (does-kept to_do left op u k.0 does) k.1
  acts-kept _ u r op _ _ (finishes {x = x} {to_do = to_do} left does) met k = finished-kept x left (apply op u) (does-kept to_do left op u k does)
  acts-kept _ u r op _ _ (undoes {x = x} left does) met k = undone-kept left (apply op u) (does-kept x.ops.undo left op u (k.0.0, ok-safe most b nb x.ops.undo u k.1.1 k.0.0) does)
  acts-kept _ u r op _ _ (goes_on_undoing {to_do = to_do} left does) met k = undone-kept left (apply op u) (does-kept to_do left op u k does)
  acts-kept _ u r _ _ _ (removes {path = path} skipped e) met k = removes-kept path u k
  acts-kept _ u r op _ _ (knocks {creation = creation} who does) met k = does-kept (Create wlock_path who ∷ []) creation op u (k, ok-safe most b nb (Create wlock_path who ∷ []) u ((facts.wlock.0, inl facts.wlock.1), tt) k) does
  acts-kept _ u r op _ _ (knocks_again {creation = creation} who does) met k = does-kept (Create lock_path who ∷ []) creation op u (k.0, ok-safe most b nb (Create lock_path who ∷ []) u ((facts.lock.0, inl facts.lock.1), tt) k.0) does
  acts-kept _ u r op _ _ (goes_on_knocking {to_do = to_do} {creation = creation} does) met k = does-kept to_do creation op u k does

  run-kept : (s : State) (log : List Op) (s' : State) → FoldsTo (GoesBy (WritesWithin b most)) s log s' → Kept s.doing s.files → Kept s'.doing s'.files
  run-kept s [] s' h k = subst (λ (q : State). Kept q.doing q.files) h k
  run-kept s (op ∷ log) s' h k =
      let go = h.1 in
      run-kept h.0 log s' h.2
      (subst (λ (u : Tree). Kept h.0.doing u) (sym go.goes.files)
      (acts-kept go.goes.there s.files (current s) op go.goes.news h.0.doing go.goes.acts go.met (leaves-kept s.doing go.goes.there s.files go.goes.leaves k)))

  both-of : (d : Doing) (u : Tree) → Kept d u → Both most b nb u
  both-of (Idle left rest) u k = k
  both-of (Refused left creation rest) u k = k.0
  both-of (Preparing x left) u k = k.0.0
  both-of (Working x left) u k = k.0.0
  both-of (Published x left) u k = k.0
  both-of (Undoing left) u k = k.0

  pub run-both : (t : Tree) (r : Repo) (log : List Op) (s : State) → Both most b nb t → FoldsTo (GoesBy (WritesWithin b most)) (start_of t r) log s → Both most b nb s.files
  run-both t r log s h run = both-of s.doing s.files (run-kept (start_of t r) log s run h)

-- ---- the three files

pub roots-apart : AreApart (place false (codes "phaseroots")) (place false (new_name (codes "phaseroots")))
roots-apart = record {
  quiet = (refl, refl);
  wlock = (refl, refl);
  lock = (refl, refl);
  backups = (refl, refl);
  journal = (refl, refl);
  named = (refl, refl);
  made = (refl, refl);
  index = (refl, refl);
  roots = record { backup = (refl, refl); text = (refl, inr refl); itself = (inr refl, refl) };
  dirstate = record { backup = (refl, refl); text = (refl, inl refl); itself = (inl refl, refl) };
  marks = record { backup = (refl, refl); text = (refl, inl refl); itself = (inl refl, refl) };
}

pub dirstate-apart : AreApart (codes "dirstate") (new_name (codes "dirstate"))
dirstate-apart = record {
  quiet = (refl, refl);
  wlock = (refl, refl);
  lock = (refl, refl);
  backups = (refl, refl);
  journal = (refl, refl);
  named = (refl, refl);
  made = (refl, refl);
  index = (refl, refl);
  roots = record { backup = (refl, refl); text = (refl, inl refl); itself = (inl refl, refl) };
  dirstate = record { backup = (refl, refl); text = (refl, inr refl); itself = (inr refl, refl) };
  marks = record { backup = (refl, refl); text = (refl, inl refl); itself = (inl refl, refl) };
}

pub marks-apart : AreApart (codes "bookmarks") (new_name (codes "bookmarks"))
marks-apart = record {
  quiet = (refl, refl);
  wlock = (refl, refl);
  lock = (refl, refl);
  backups = (refl, refl);
  journal = (refl, refl);
  named = (refl, refl);
  made = (refl, refl);
  index = (refl, refl);
  roots = record { backup = (refl, refl); text = (refl, inl refl); itself = (inl refl, refl) };
  dirstate = record { backup = (refl, refl); text = (refl, inl refl); itself = (inl refl, refl) };
  marks = record { backup = (refl, refl); text = (refl, inr refl); itself = (inr refl, refl) };
}
