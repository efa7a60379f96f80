-- The tree after a commit's transaction: what is appended to, what is replaced, what is gone.
use Rattle.std.proofs.Common.{◌≡◌, ℕ, List, [], ◌∷◌, ◌++◌, Bool, true, false, map, refl, sym, ◌∙◌, ap, subst, inl, inr, append-nil}
use Rattle.std.specs.Prelude.{Option, Some, None, flat_map, unwrap_or, if◌then◌else◌, codes}
use Rattle.std.specs.List.{AllByRecursion, list_all}
use Rattle.hgs_bytes.specs.Bytes.{same, among}
use Rattle.hgs_bytes.specs.Theorems.ByteLemmas.{same-eq}
use Rattle.hgs_files.specs.declared.op.Op.{Op}
use Rattle.hgs_files.specs.declared.op.Op.TheVariants.{Append, Cut, Rename, Remove, Create, Sync, Settle}
use Rattle.hgs_files.specs.Tree.{Tree, bytes_at, with_file, renamed, apply, after_all}
use Rattle.hgs_files.specs.Theorems.TreeLemmas.{with_file-same, after_all-append}
use Rattle.hgs_journal.specs.declared.backups.BackupLine.{BackupLine}
use Rattle.hgs_journal.specs.Names.{journal_path, backups_path, place, backup_name, new_name, new_journal_path}
use Rattle.hgs_journal.specs.Texts.{backups_text}
use Rattle.hgs_stands.specs.Places.{bookmarks_path, dirstate_path, roots_path}
use Rattle.hgs_ops.specs.Operations.{wlock_path, lock_path, preparations}
use Rattle.hgs_ops.specs.Replaced.{Replacement, backup_put, new_put, new_rename, only_if, standing_file, marks_with, roots_with, dirstate_with}
use Rattle.hgs_ops.specs.Growth.{appends_at, appended}
use Rattle.hgs_ops.specs.Theorems.Touch.{touches, touched, untouched, within, touched-within, only_appends, appended-at, all-append, bool, never, apply-other, or-left, or-both, and-left, and-right, and-both}
use Rattle.hgs_ops.specs.Theorems.Replace.{aside, end, gone-none}

-- the paths that a transaction writes beside the revlogs and the list of files
abbrev pub quiet : List (List ℕ)
quiet = roots_path ∷ dirstate_path ∷ bookmarks_path ∷ aside

abbrev pub is_quiet : List ℕ → Bool
is_quiet p = among p quiet

-- the list of a commit
abbrev pub commit_list : Tree → List ℕ → List Replacement → List BackupLine → List ℕ → List Op → List Op → Op → List Op → List Op
commit_list t who files backups journal growth first publish second =
    preparations t who files backups journal ++ (Rename new_journal_path journal_path ∷ (growth ++ first)) ++ (publish ∷ second) ++ end

-- the files that a commit replaces
abbrev pub files_of : Bool → Bool → List ℕ → List ℕ → List ℕ → List Replacement
files_of rc bk roots dirstate marks = only_if rc (roots_with roots) ++ dirstate_with dirstate ∷ only_if bk (marks_with marks)

abbrev pub first_of : Bool → List ℕ → List Op
first_of rc roots = if rc then new_rename (roots_with roots) ∷ [] else []

abbrev pub second_of : Bool → List ℕ → List ℕ → List Op
second_of bk dirstate marks = new_rename (dirstate_with dirstate) ∷ only_if bk (new_rename (marks_with marks))

-- ---- the small operations are at quiet paths

-- a file whose places are quiet
abbrev pub IsSmall : (List ℕ → Bool) → Replacement → Type 0
IsSmall ok y = (ok (place y.plain (backup_name y.file)) ≡ true) × (ok (place y.plain (new_name y.file)) ≡ true)

backups-within : (ok : List ℕ → Bool) (t : Tree) (files : List Replacement) → AllByRecursion (IsSmall ok) files → list_all (within ok) (flat_map (λ x. backup_put x (standing_file t x)) files) ≡ true
backups-within ok t [] all = refl
backups-within ok t (y ∷ files) all = all-append (within ok) (backup_put y (standing_file t y)) _ (one (standing_file t y)) (backups-within ok t files all.1)
  where
    one : (o : Option (List ℕ)) → list_all (within ok) (backup_put y o) ≡ true
    one None = refl
    one (Some b) = and-both _ _ all.0.0 refl

puts-within : (ok : List ℕ → Bool) (files : List Replacement) → AllByRecursion (IsSmall ok) files → list_all (within ok) (map new_put files) ≡ true
puts-within ok [] all = refl
puts-within ok (y ∷ files) all = and-both _ _ all.0.1 (puts-within ok files all.1)

abbrev is_aside : List ℕ → Bool
is_aside p = among p aside

aside-files : (rc bk : Bool) (roots dirstate marks : List ℕ) → AllByRecursion (IsSmall is_aside) (files_of rc bk roots dirstate marks)
aside-files true true roots dirstate marks = ((refl, refl), ((refl, refl), ((refl, refl), tt)))
aside-files true false roots dirstate marks = ((refl, refl), ((refl, refl), tt))
aside-files false true roots dirstate marks = ((refl, refl), ((refl, refl), tt))
aside-files false false roots dirstate marks = ((refl, refl), tt)

pub small-files : (rc bk : Bool) (roots dirstate marks : List ℕ) → AllByRecursion (IsSmall is_quiet) (files_of rc bk roots dirstate marks)
small-files true true roots dirstate marks = ((refl, refl), ((refl, refl), ((refl, refl), tt)))
small-files true false roots dirstate marks = ((refl, refl), ((refl, refl), tt))
small-files false true roots dirstate marks = ((refl, refl), ((refl, refl), tt))
small-files false false roots dirstate marks = ((refl, refl), tt)

abbrev lead : Tree → List ℕ → List Replacement → List Op
lead t who files = Create wlock_path who ∷ Create lock_path who ∷ flat_map (λ x. backup_put x (standing_file t x)) files

pub preparations-within : (ok : List ℕ → Bool) (t : Tree) (who : List ℕ) (files : List Replacement) (backups : List BackupLine) (text : List ℕ) → ok wlock_path ≡ true → ok lock_path ≡ true → ok backups_path ≡ true → ok new_journal_path ≡ true
    → AllByRecursion (IsSmall ok) files → list_all (within ok) (preparations t who files backups text) ≡ true
preparations-within ok t who files backups text a b c d all =
    all-append (within ok) (lead t who files ++ map new_put files) (Create backups_path (backups_text backups) ∷ Create new_journal_path text ∷ [])
    (all-append (within ok) (lead t who files) (map new_put files) (and-both _ _ a (and-both _ _ b (backups-within ok t files all))) (puts-within ok files all)) (and-both _ _ c (and-both _ _ d refl))

abbrev pub new_roots_path : List ℕ
new_roots_path = codes "store/journal.new.phaseroots"

abbrev new_dirstate_path : List ℕ
new_dirstate_path = codes "journal.new.dirstate"

abbrev new_marks_path : List ℕ
new_marks_path = codes "journal.new.bookmarks"

put-first : (n text : List ℕ) (ys : List Op) (v : Tree) → touched n ys ≡ false → after_all (Create n text ∷ ys) v n ≡ Some text
put-first n text ys v e = untouched ys (apply (Create n text) v) n e ∙ with_file-same v n (Some text)

roots-in : (bk : Bool) (roots dirstate marks : List ℕ) (v : Tree) → after_all (map new_put (files_of true bk roots dirstate marks)) v new_roots_path ≡ Some roots
roots-in true roots dirstate marks v = put-first new_roots_path roots (new_put (dirstate_with dirstate) ∷ new_put (marks_with marks) ∷ []) v refl
roots-in false roots dirstate marks v = put-first new_roots_path roots (new_put (dirstate_with dirstate) ∷ []) v refl

dirstate-in : (rc bk : Bool) (roots dirstate marks : List ℕ) (v : Tree) → after_all (map new_put (files_of rc bk roots dirstate marks)) v new_dirstate_path ≡ Some dirstate
dirstate-in true true roots dirstate marks v = put-first new_dirstate_path dirstate (new_put (marks_with marks) ∷ []) (apply (Create new_roots_path roots) v) refl
dirstate-in true false roots dirstate marks v = put-first new_dirstate_path dirstate [] (apply (Create new_roots_path roots) v) refl
dirstate-in false true roots dirstate marks v = put-first new_dirstate_path dirstate (new_put (marks_with marks) ∷ []) v refl
dirstate-in false false roots dirstate marks v = put-first new_dirstate_path dirstate [] v refl

marks-in : (rc : Bool) (roots dirstate marks : List ℕ) (v : Tree) → after_all (map new_put (files_of rc true roots dirstate marks)) v new_marks_path ≡ Some marks
marks-in true roots dirstate marks v = put-first new_marks_path marks [] (apply (Create new_dirstate_path dirstate) (apply (Create new_roots_path roots) v)) refl
marks-in false roots dirstate marks v = put-first new_marks_path marks [] (apply (Create new_dirstate_path dirstate) v) refl

rename-to : (t : Tree) (from to text : List ℕ) (f : Option (List ℕ)) → f ≡ Some text → renamed t from to f to ≡ Some text
rename-to t from to text f e = ap (λ z. renamed t from to z to) e ∙ with_file-same (with_file t from None) to (Some text)

first-roots : (rc : Bool) (v : Tree) (roots : List ℕ) (old : Option (List ℕ)) → (rc ≡ true → v new_roots_path ≡ Some roots) → v roots_path ≡ old → after_all (first_of rc roots) v roots_path ≡ (if rc then Some roots else old)
first-roots true v roots old put kept = rename-to v new_roots_path roots_path roots (v new_roots_path) (put refl)
first-roots false v roots old put kept = kept

second-dirstate : (bk : Bool) (v : Tree) (dirstate marks : List ℕ) → v new_dirstate_path ≡ Some dirstate → after_all (second_of bk dirstate marks) v dirstate_path ≡ Some dirstate
second-dirstate true v dirstate marks put =
    untouched (new_rename (marks_with marks) ∷ []) (apply (Rename new_dirstate_path dirstate_path) v) dirstate_path refl ∙ rename-to v new_dirstate_path dirstate_path dirstate (v new_dirstate_path) put
second-dirstate false v dirstate marks put = rename-to v new_dirstate_path dirstate_path dirstate (v new_dirstate_path) put

second-marks : (bk : Bool) (v : Tree) (dirstate marks : List ℕ) (old : Option (List ℕ)) → (bk ≡ true → v new_marks_path ≡ Some marks) → v bookmarks_path ≡ old
    → after_all (second_of bk dirstate marks) v bookmarks_path ≡ (if bk then Some marks else old)
second-marks true v dirstate marks old put kept =
    let w : Tree = apply (Rename new_dirstate_path dirstate_path) v in
    rename-to w new_marks_path bookmarks_path marks (w new_marks_path) (apply-other (Rename new_dirstate_path dirstate_path) v new_marks_path refl ∙ put refl)
second-marks false v dirstate marks old put kept = apply-other (Rename new_dirstate_path dirstate_path) v bookmarks_path refl ∙ kept

first-untouched : (rc : Bool) (roots q : List ℕ) → touched q (new_rename (roots_with roots) ∷ []) ≡ false → touched q (first_of rc roots) ≡ false
first-untouched true roots q e = e
first-untouched false roots q e = refl

second-untouched : (bk : Bool) (dirstate marks q : List ℕ) → touched q (new_rename (dirstate_with dirstate) ∷ new_rename (marks_with marks) ∷ []) ≡ false → touched q (second_of bk dirstate marks) ≡ false
second-untouched true dirstate marks q e = e
second-untouched false dirstate marks q e = or-both _ _ (or-left _ _ e) refl

pub first-within : (rc : Bool) (roots : List ℕ) → list_all (within is_quiet) (first_of rc roots) ≡ true
first-within true roots = refl
first-within false roots = refl

second-within : (bk : Bool) (dirstate marks : List ℕ) → list_all (within is_quiet) (second_of bk dirstate marks) ≡ true
second-within true dirstate marks = refl
second-within false dirstate marks = refl

-- ---- the stages

-- What the whole list of a commit leaves.
pub record CommitLeaves (t u : Tree) (rc bk : Bool) (roots dirstate marks : List ℕ) (growth : List Op) (publish : Op) : Type 0 where
  pub bytes : (p : List ℕ) → is_quiet p ≡ false → bytes_at u p ≡ (bytes_at t p ++ appended p growth) ++ appends_at p publish
  pub others : (p : List ℕ) → is_quiet p ≡ false → touched p growth ≡ false → touches p publish ≡ false → u p ≡ t p
  pub roots_are : u roots_path ≡ (if rc then Some roots else t roots_path)
  pub dirstate_is : u dirstate_path ≡ Some dirstate
  pub marks_are : u bookmarks_path ≡ (if bk then Some marks else t bookmarks_path)
  pub journal : u journal_path ≡ None
  pub wlock : u wlock_path ≡ None
  pub lock : u lock_path ≡ None

bytes-untouched : (ops : List Op) (t : Tree) (p : List ℕ) → touched p ops ≡ false → bytes_at (after_all ops t) p ≡ bytes_at t p
bytes-untouched ops t p e = ap (λ f. unwrap_or f []) (untouched ops t p e)

abbrev pub is_append : Op → Bool
is_append (Append path bytes) = true
is_append _ = false

pub appends-only : (ops : List Op) (p : List ℕ) → list_all is_append ops ≡ true → list_all (only_appends p) ops ≡ true
appends-only [] p e = refl
appends-only (op ∷ ops) p e = and-both _ _ (one op (and-left _ _ e)) (appends-only ops p (and-right (is_append op) _ e))
  where
    one : (op : Op) → is_append op ≡ true → only_appends p op ≡ true
    one (Append path bytes) h = refl
    one (Cut path len) h = never (sym h)
    one (Rename from to) h = never (sym h)
    one (Remove path) h = never (sym h)
    one (Create path bytes) h = never (sym h)
    one (Sync path) h = never (sym h)
    one Settle h = never (sym h)

module _ (t : Tree) (who : List ℕ) (rc bk : Bool) (roots dirstate marks : List ℕ) (backups : List BackupLine) (journal : List ℕ) (growth : List Op) (path entry : List ℕ)
    (loud : is_quiet path ≡ false) (appends : list_all is_append growth ≡ true) (apart : (q : List ℕ) → is_quiet q ≡ true → touched q growth ≡ false) where
  abbrev prep : List Op
  prep = preparations t who (files_of rc bk roots dirstate marks) backups journal

  abbrev t1 : Tree
  t1 = after_all prep t

  abbrev t2 : Tree
  t2 = apply (Rename new_journal_path journal_path) t1

  abbrev t3 : Tree
  t3 = after_all growth t2

  abbrev t4 : Tree
  t4 = after_all (first_of rc roots) t3

  abbrev t5 : Tree
  t5 = apply (Append path entry) t4

  abbrev t6 : Tree
  t6 = after_all (second_of bk dirstate marks) t5

  abbrev u : Tree
  u = after_all end t6

  stages : after_all (commit_list t who (files_of rc bk roots dirstate marks) backups journal growth (first_of rc roots) (Append path entry) (second_of bk dirstate marks)) t ≡ u
  stages =
      after_all-append (prep ++ (Rename new_journal_path journal_path ∷ (growth ++ first_of rc roots)) ++ (Append path entry ∷ second_of bk dirstate marks)) end t
      ∙ ap (after_all end)
      (after_all-append (prep ++ (Rename new_journal_path journal_path ∷ (growth ++ first_of rc roots))) (Append path entry ∷ second_of bk dirstate marks) t
      ∙ ap (after_all (Append path entry ∷ second_of bk dirstate marks)) (after_all-append prep (Rename new_journal_path journal_path ∷ (growth ++ first_of rc roots)) t ∙ after_all-append growth (first_of rc roots) t2))

  -- a path that isn't quiet is touched by the growth and the publishing append only
  prep-other : (p : List ℕ) → is_quiet p ≡ false → touched p prep ≡ false
  prep-other p e = touched-within is_quiet prep p (preparations-within is_quiet t who (files_of rc bk roots dirstate marks) backups journal refl refl refl refl (small-files rc bk roots dirstate marks)) e

  first-other : (p : List ℕ) → is_quiet p ≡ false → touched p (first_of rc roots) ≡ false
  first-other p e = touched-within is_quiet (first_of rc roots) p (first-within rc roots) e

  second-other : (p : List ℕ) → is_quiet p ≡ false → touched p (second_of bk dirstate marks) ≡ false
  second-other p e = touched-within is_quiet (second_of bk dirstate marks) p (second-within bk dirstate marks) e

  end-other : (p : List ℕ) → is_quiet p ≡ false → touched p end ≡ false
  end-other p e = touched-within is_quiet end p refl e

  journal-other : (p : List ℕ) → is_quiet p ≡ false → touched p (Rename new_journal_path journal_path ∷ []) ≡ false
  journal-other p e = touched-within is_quiet (Rename new_journal_path journal_path ∷ []) p refl e

  u-bytes : (p : List ℕ) → is_quiet p ≡ false → bytes_at u p ≡ (bytes_at t p ++ appended p growth) ++ appends_at p (Append path entry)
  u-bytes p e =
      bytes-untouched end t6 p (end-other p e)
      ∙ bytes-untouched (second_of bk dirstate marks) t5 p (second-other p e)
      ∙ appended-at (Append path entry ∷ []) t4 p refl
      ∙ ap (λ l. l ++ (appends_at p (Append path entry) ++ [])) (bytes-untouched (first_of rc roots) t3 p (first-other p e) ∙ appended-at growth t2 p (appends-only growth p appends)
      ∙ ap (λ l. l ++ appended p growth) (bytes-untouched (Rename new_journal_path journal_path ∷ []) t1 p (journal-other p e) ∙ bytes-untouched prep t p (prep-other p e)))
      ∙ ap (λ l. (bytes_at t p ++ appended p growth) ++ l) (append-nil (appends_at p (Append path entry)))

  u-others : (p : List ℕ) → is_quiet p ≡ false → touched p growth ≡ false → touches p (Append path entry) ≡ false → u p ≡ t p
  u-others p e g h =
      untouched end t6 p (end-other p e) ∙ untouched (second_of bk dirstate marks) t5 p (second-other p e) ∙ apply-other (Append path entry) t4 p h
      ∙ untouched (first_of rc roots) t3 p (first-other p e) ∙ untouched growth t2 p g ∙ untouched (Rename new_journal_path journal_path ∷ []) t1 p (journal-other p e) ∙ untouched prep t p (prep-other p e)

  -- the publishing append is at no quiet path
  publish-other : (q : List ℕ) → is_quiet q ≡ true → touches q (Append path entry) ≡ false
  publish-other q e = elim (bool (same path q)) [
    | inl h ↦ never (sym e ∙ ap is_quiet (sym (same-eq path q h)) ∙ loud)
    | inr h ↦ h
  ]

  -- ---- what is put under the new names

  -- a quiet path keeps its file through the growth
  through : (q : List ℕ) → is_quiet q ≡ true → touches q (Rename new_journal_path journal_path) ≡ false → t3 q ≡ t1 q
  through q e h = untouched growth t2 q (apart q e) ∙ apply-other (Rename new_journal_path journal_path) t1 q h

  pub u-journal : u journal_path ≡ None
  u-journal = gone-none journal_path false end t6 (λ h. never (sym h)) refl

  pub u-wlock : u wlock_path ≡ None
  u-wlock = gone-none wlock_path false end t6 (λ h. never (sym h)) refl

  pub u-lock : u lock_path ≡ None
  u-lock = gone-none lock_path false end t6 (λ h. never (sym h)) refl

  abbrev put_on : Tree
  put_on = after_all (lead t who (files_of rc bk roots dirstate marks)) t

  t1-at : (q : List ℕ) → same backups_path q ≡ false → same new_journal_path q ≡ false → t1 q ≡ after_all (map new_put (files_of rc bk roots dirstate marks)) put_on q
  t1-at q e f =
      ap (λ (v : Tree). v q) (after_all-append (lead t who (files_of rc bk roots dirstate marks) ++ map new_put (files_of rc bk roots dirstate marks)) (Create backups_path (backups_text backups) ∷ Create new_journal_path journal ∷ []) t)
      ∙ apply-other (Create new_journal_path journal) (apply (Create backups_path (backups_text backups)) (after_all (lead t who (files_of rc bk roots dirstate marks) ++ map new_put (files_of rc bk roots dirstate marks)) t)) q f
      ∙ apply-other (Create backups_path (backups_text backups)) (after_all (lead t who (files_of rc bk roots dirstate marks) ++ map new_put (files_of rc bk roots dirstate marks)) t) q e
      ∙ ap (λ (v : Tree). v q) (after_all-append (lead t who (files_of rc bk roots dirstate marks)) (map new_put (files_of rc bk roots dirstate marks)) t)

  -- the new texts stand after the preparations
  pub roots-put : rc ≡ true → t1 new_roots_path ≡ Some roots
  roots-put e = t1-at new_roots_path refl refl ∙ subst (λ b. after_all (map new_put (files_of b bk roots dirstate marks)) put_on new_roots_path ≡ Some roots) (sym e) (roots-in bk roots dirstate marks put_on)

  dirstate-put : t1 new_dirstate_path ≡ Some dirstate
  dirstate-put = t1-at new_dirstate_path refl refl ∙ dirstate-in rc bk roots dirstate marks put_on

  marks-put : bk ≡ true → t1 new_marks_path ≡ Some marks
  marks-put e = t1-at new_marks_path refl refl ∙ subst (λ b. after_all (map new_put (files_of rc b roots dirstate marks)) put_on new_marks_path ≡ Some marks) (sym e) (marks-in rc roots dirstate marks put_on)

  -- the three files stay through the preparations
  file-kept : (q : List ℕ) → is_aside q ≡ false → t1 q ≡ t q
  file-kept q e = untouched prep t q (touched-within is_aside prep q (preparations-within is_aside t who (files_of rc bk roots dirstate marks) backups journal refl refl refl refl (aside-files rc bk roots dirstate marks)) e)

  u-roots : u roots_path ≡ (if rc then Some roots else t roots_path)
  u-roots =
      untouched end t6 roots_path refl ∙ untouched (second_of bk dirstate marks) t5 roots_path (second-untouched bk dirstate marks roots_path refl)
      ∙ apply-other (Append path entry) t4 roots_path (publish-other roots_path refl)
      ∙ first-roots rc t3 roots (t roots_path) (λ e. through new_roots_path refl refl ∙ roots-put e) (through roots_path refl refl ∙ file-kept roots_path refl)

  u-dirstate : u dirstate_path ≡ Some dirstate
  u-dirstate =
      untouched end t6 dirstate_path refl
      ∙ second-dirstate bk t5 dirstate marks (apply-other (Append path entry) t4 new_dirstate_path (publish-other new_dirstate_path refl)
      ∙ untouched (first_of rc roots) t3 new_dirstate_path (first-untouched rc roots new_dirstate_path refl) ∙ through new_dirstate_path refl refl ∙ dirstate-put)

  u-marks : u bookmarks_path ≡ (if bk then Some marks else t bookmarks_path)
  u-marks =
      untouched end t6 bookmarks_path refl
      ∙ second-marks bk t5 dirstate marks (t bookmarks_path)
      (λ e. apply-other (Append path entry) t4 new_marks_path (publish-other new_marks_path refl)
      ∙ untouched (first_of rc roots) t3 new_marks_path (first-untouched rc roots new_marks_path refl) ∙ through new_marks_path refl refl ∙ marks-put e)
      (apply-other (Append path entry) t4 bookmarks_path (publish-other bookmarks_path refl)
      ∙ untouched (first_of rc roots) t3 bookmarks_path (first-untouched rc roots bookmarks_path refl) ∙ through bookmarks_path refl refl ∙ file-kept bookmarks_path refl)

  pub commit-leaves : CommitLeaves t (after_all (commit_list t who (files_of rc bk roots dirstate marks) backups journal growth (first_of rc roots) (Append path entry) (second_of bk dirstate marks)) t) rc bk roots dirstate marks growth (Append path entry)
  commit-leaves = subst (λ (v : Tree). CommitLeaves t v rc bk roots dirstate marks growth (Append path entry)) (sym stages) (record {
    bytes = u-bytes;
    others = u-others;
    roots_are = u-roots;
    dirstate_is = u-dirstate;
    marks_are = u-marks;
    journal = u-journal;
    wlock = u-wlock;
    lock = u-lock;
  })
