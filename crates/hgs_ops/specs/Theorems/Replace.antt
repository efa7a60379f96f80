-- The tree after a transaction that replaces one file.
use Rattle.std.proofs.Common.{◌≡◌, ℕ, List, [], ◌∷◌, ◌++◌, Bool, true, false, ◌&&◌, ◌||◌, not, refl, sym, ◌∙◌, append-nil}
use Rattle.std.specs.Prelude.{Option, Some, None, codes}
use Rattle.std.specs.List.{list_all}
use Rattle.hgs_bytes.specs.Bytes.{same, among}
use Rattle.hgs_files.specs.declared.op.Op.{Op}
use Rattle.hgs_files.specs.declared.op.Op.TheVariants.{Append, Cut, Rename, Remove, Create, Sync, Settle}
use Rattle.hgs_files.specs.Tree.{Tree, apply, after_all}
use Rattle.hgs_journal.specs.Names.{journal_path, backups_path, place, new_name, new_journal_path}
use Rattle.hgs_journal.specs.Texts.{backups_text}
use Rattle.hgs_model.specs.Repo.{Repo}
use Rattle.hgs_model.specs.declared.command.Command.TheVariants.{Move, Mark, Unmark}
use Rattle.hgs_model.specs.declared.phase.Phase.{Phase}
use Rattle.hgs_stands.specs.Places.{bookmarks_path, roots_path}
use Rattle.hgs_ops.specs.Operations.{strays, wlock_path, lock_path, removals, transaction_of, operations, backups_of}
use Rattle.hgs_ops.specs.Replaced.{Replacement, backup_put, new_put, new_rename, new_bookmarks, new_roots, marks_with, roots_with}
use Rattle.hgs_ops.specs.Theorems.Touch.{at as with_file-at, away as with_file-other, touches, untouched, within, touched-within, put-renamed, never, apply-other, and-left, and-right}

-- ---- what is gone at the end

-- whether no file stands at the path behind the operations, as far as they tell
abbrev pub gone : List ℕ → Bool → List Op → Bool
gone p b [] = b
gone p b (Remove path ∷ ops) = gone p (same path p || b) ops
gone p b (Append path bytes ∷ ops) = gone p (b && not (touches p (Append path bytes))) ops
gone p b (Cut path len ∷ ops) = gone p (b && not (touches p (Cut path len))) ops
gone p b (Rename from to ∷ ops) = gone p (b && not (touches p (Rename from to))) ops
gone p b (Create path bytes ∷ ops) = gone p (b && not (touches p (Create path bytes))) ops
gone p b (Sync path ∷ ops) = gone p b ops
gone p b (Settle ∷ ops) = gone p b ops

not-false : (b : Bool) → not b ≡ true → b ≡ false
not-false true e = sym e
not-false false e = refl

still-gone : (p : List ℕ) (b : Bool) (op : Op) (t : Tree) → (b ≡ true → t p ≡ None) → (b && not (touches p op)) ≡ true → apply op t p ≡ None
still-gone p b op t h e = apply-other op t p (not-false _ (and-right b _ e)) ∙ h (and-left b _ e)

pub gone-none : (p : List ℕ) (b : Bool) (ops : List Op) (t : Tree) → (b ≡ true → t p ≡ None) → gone p b ops ≡ true → after_all ops t p ≡ None
gone-none p b [] t h e = h e
gone-none p b (Remove path ∷ ops) t h e = gone-none p (same path p || b) ops (apply (Remove path) t) (by (same path p) refl) e
  where
    by : (z : Bool) → same path p ≡ z → (z || b) ≡ true → apply (Remove path) t p ≡ None
    by true g k = with_file-at t path p None g
    by false g k = with_file-other t path p None g ∙ h k
gone-none p b (Append path bytes ∷ ops) t h e = gone-none p _ ops _ (still-gone p b (Append path bytes) t h) e
gone-none p b (Cut path len ∷ ops) t h e = gone-none p _ ops _ (still-gone p b (Cut path len) t h) e
gone-none p b (Rename from to ∷ ops) t h e = gone-none p _ ops _ (still-gone p b (Rename from to) t h) e
gone-none p b (Create path bytes ∷ ops) t h e = gone-none p _ ops _ (still-gone p b (Create path bytes) t h) e
gone-none p b (Sync path ∷ ops) t h e = gone-none p b ops t h e
gone-none p b (Settle ∷ ops) t h e = gone-none p b ops t h e

-- ---- one file is replaced

-- the paths that mean nothing without a journal, and the journal
abbrev pub aside : List (List ℕ)
aside = journal_path ∷ wlock_path ∷ lock_path ∷ strays

-- The tree u is t with this text at this file, locks, strays and the journal aside, of which the journal and the locks are gone.
pub record Replaced (t u : Tree) (file text : List ℕ) : Type 0 where
  pub file_is : u file ≡ Some text
  pub others : (p : List ℕ) → among p (file ∷ aside) ≡ false → u p ≡ t p
  pub journal : u journal_path ≡ None
  pub wlock : u wlock_path ≡ None
  pub lock : u lock_path ≡ None

abbrev pub front : List ℕ → Replacement → Option (List ℕ) → List Op
front who y old = Create wlock_path who ∷ Create lock_path who ∷ backup_put y old

abbrev pub middle : List ℕ → List Op
middle list = Create backups_path list ∷ Create new_journal_path [] ∷ Rename new_journal_path journal_path ∷ []

abbrev pub end : List Op
end = Remove journal_path ∷ removals

abbrev pub one_replaced : List ℕ → Replacement → Option (List ℕ) → List ℕ → List Op
one_replaced who y old list = front who y old ++ (Create (place y.plain (new_name y.file)) y.text ∷ (middle list ++ (Rename (place y.plain (new_name y.file)) (place y.plain y.file) ∷ end)))

pub marks-replaced : (t : Tree) (who text list : List ℕ) (old : Option (List ℕ)) → Replaced t (after_all (one_replaced who (marks_with text) old list) t) bookmarks_path text
marks-replaced t who text list old = record {
  file_is = put-renamed (front who (marks_with text) old) (middle list) end (codes "journal.new.bookmarks") bookmarks_path text t refl refl;
  others = λ p e. untouched (one_replaced who (marks_with text) old list) t p (touched-within (λ q. among q (bookmarks_path ∷ aside)) (one_replaced who (marks_with text) old list) p (inside old) e);
  journal = gone-none journal_path false (one_replaced who (marks_with text) old list) t (λ h. never (sym h)) (g1 old);
  wlock = gone-none wlock_path false (one_replaced who (marks_with text) old list) t (λ h. never (sym h)) (g2 old);
  lock = gone-none lock_path false (one_replaced who (marks_with text) old list) t (λ h. never (sym h)) (g3 old);
}
  where
    inside : (o : Option (List ℕ)) → list_all (within (λ q. among q (bookmarks_path ∷ aside))) (one_replaced who (marks_with text) o list) ≡ true
    inside None = refl
    inside (Some b) = refl

    g1 : (o : Option (List ℕ)) → gone journal_path false (one_replaced who (marks_with text) o list) ≡ true
    g1 None = refl
    g1 (Some b) = refl

    g2 : (o : Option (List ℕ)) → gone wlock_path false (one_replaced who (marks_with text) o list) ≡ true
    g2 None = refl
    g2 (Some b) = refl

    g3 : (o : Option (List ℕ)) → gone lock_path false (one_replaced who (marks_with text) o list) ≡ true
    g3 None = refl
    g3 (Some b) = refl

pub roots-replaced : (t : Tree) (who text list : List ℕ) (old : Option (List ℕ)) → Replaced t (after_all (one_replaced who (roots_with text) old list) t) roots_path text
roots-replaced t who text list old = record {
  file_is = put-renamed (front who (roots_with text) old) (middle list) end (codes "store/journal.new.phaseroots") roots_path text t refl refl;
  others = λ p e. untouched (one_replaced who (roots_with text) old list) t p (touched-within (λ q. among q (roots_path ∷ aside)) (one_replaced who (roots_with text) old list) p (inside old) e);
  journal = gone-none journal_path false (one_replaced who (roots_with text) old list) t (λ h. never (sym h)) (g1 old);
  wlock = gone-none wlock_path false (one_replaced who (roots_with text) old list) t (λ h. never (sym h)) (g2 old);
  lock = gone-none lock_path false (one_replaced who (roots_with text) old list) t (λ h. never (sym h)) (g3 old);
}
  where
    inside : (o : Option (List ℕ)) → list_all (within (λ q. among q (roots_path ∷ aside))) (one_replaced who (roots_with text) o list) ≡ true
    inside None = refl
    inside (Some b) = refl

    g1 : (o : Option (List ℕ)) → gone journal_path false (one_replaced who (roots_with text) o list) ≡ true
    g1 None = refl
    g1 (Some b) = refl

    g2 : (o : Option (List ℕ)) → gone wlock_path false (one_replaced who (roots_with text) o list) ≡ true
    g2 None = refl
    g2 (Some b) = refl

    g3 : (o : Option (List ℕ)) → gone lock_path false (one_replaced who (roots_with text) o list) ≡ true
    g3 None = refl
    g3 (Some b) = refl

-- ---- the operations of the commands that replace one file

put-nil : (y : Replacement) (o : Option (List ℕ)) → backup_put y o ++ [] ≡ backup_put y o
put-nil y o = append-nil (backup_put y o)

pub mark-operations : (t : Tree) (r : Repo) (name rev who : List ℕ) (done : Repo)
    → operations (transaction_of t r (Mark name rev) who done) ≡ one_replaced who (new_bookmarks done) (t bookmarks_path) (backups_text (backups_of t r (Mark name rev) done))
mark-operations t r name rev who done = by (t bookmarks_path)
  where
    by : (o : Option (List ℕ)) → (Create wlock_path who ∷ Create lock_path who ∷ ((backup_put (new_bookmarks done) o ++ []) ++ (new_put (new_bookmarks done) ∷ []) ++ (Create backups_path (backups_text (backups_of t r (Mark name rev) done)) ∷ Create new_journal_path [] ∷ [])))
        ++ (Rename new_journal_path journal_path ∷ []) ++ (new_rename (new_bookmarks done) ∷ []) ++ end ≡ one_replaced who (new_bookmarks done) o (backups_text (backups_of t r (Mark name rev) done))
    by None = refl
    by (Some b) = refl

pub unmark-operations : (t : Tree) (r : Repo) (name who : List ℕ) (done : Repo)
    → operations (transaction_of t r (Unmark name) who done) ≡ one_replaced who (new_bookmarks done) (t bookmarks_path) (backups_text (backups_of t r (Unmark name) done))
unmark-operations t r name who done = by (t bookmarks_path)
  where
    by : (o : Option (List ℕ)) → (Create wlock_path who ∷ Create lock_path who ∷ ((backup_put (new_bookmarks done) o ++ []) ++ (new_put (new_bookmarks done) ∷ []) ++ (Create backups_path (backups_text (backups_of t r (Unmark name) done)) ∷ Create new_journal_path [] ∷ [])))
        ++ (Rename new_journal_path journal_path ∷ []) ++ (new_rename (new_bookmarks done) ∷ []) ++ end ≡ one_replaced who (new_bookmarks done) o (backups_text (backups_of t r (Unmark name) done))
    by None = refl
    by (Some b) = refl

pub move-operations : (t : Tree) (r : Repo) (rev : List ℕ) (phase : Phase) (force : Bool) (who : List ℕ) (done : Repo)
    → operations (transaction_of t r (Move rev phase force) who done) ≡ one_replaced who (new_roots done) (t roots_path) (backups_text (backups_of t r (Move rev phase force) done))
move-operations t r rev phase force who done = by (t roots_path)
  where
    by : (o : Option (List ℕ)) → (Create wlock_path who ∷ Create lock_path who ∷ ((backup_put (new_roots done) o ++ []) ++ (new_put (new_roots done) ∷ []) ++ (Create backups_path (backups_text (backups_of t r (Move rev phase force) done)) ∷ Create new_journal_path [] ∷ [])))
        ++ (Rename new_journal_path journal_path ∷ []) ++ (new_rename (new_roots done) ∷ []) ++ end ≡ one_replaced who (new_roots done) o (backups_text (backups_of t r (Move rev phase force) done))
    by None = refl
    by (Some b) = refl
