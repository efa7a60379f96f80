-- An import leaves the tree that a commit's operations would: its new index of the changelog is the old one and the new entries.
use Rattle.std.proofs.Common.{◌≡◌, ℕ, List, [], ◌∷◌, ◌++◌, Bool, true, false, length, refl, sym, ◌∙◌, ap, subst, inl, inr}
use Rattle.std.proofs.lemmas.List.Elements.{filter_map-append}
use Rattle.std.specs.Prelude.{Option, Some, None, codes, unwrap_or}
use Rattle.std.specs.List.{list_all, list_any}
use Rattle.hgs_bytes.specs.Bytes.{same}
use Rattle.hgs_bytes.specs.Theorems.ByteLemmas.{same-eq}
use Rattle.hgs_files.specs.declared.op.Op.{Op}
use Rattle.hgs_files.specs.declared.op.Op.TheVariants.{Append, Cut, Rename, Remove, Create, Sync, Settle}
use Rattle.hgs_files.specs.Tree.{Tree, after_all, apply, bytes_at, renamed, shortened, with_file}
use Rattle.hgs_files.specs.Theorems.TreeLemmas.{after_all-append, with_file-same}
use Rattle.hgs_journal.specs.declared.backups.BackupLine.{BackupLine}
use Rattle.hgs_journal.specs.Names.{journal_path, new_journal_path}
use Rattle.hgs_model.specs.declared.command.Command.TheVariants.{Import}
use Rattle.hgs_model.specs.declared.command.NewChange.{NewChange}
use Rattle.hgs_model.specs.Repo.{Repo}
use Rattle.hgs_stands.specs.Places.{changelog_index}
use Rattle.hgs_ops.specs.Growth.{growth, new_changelog_entry}
use Rattle.hgs_ops.specs.Operations.{changes_before, journal_line_of, journal_lines, journal_of, new_changelog_index, new_changelog_path, preparations, roots_renamed}
use Rattle.hgs_ops.specs.Theorems.CommitTree.{CommitLeaves, commit-leaves, commit_list, files_of, first_of, is_append, is_quiet, preparations-within, second_of, small-files}
use Rattle.hgs_ops.specs.Theorems.Replace.{end}
use Rattle.hgs_ops.specs.Theorems.Touch.{at, away, bool, bytes-same, never, or-left, or-right, same-sym, touched, touched-within, untouched}

-- ---- trees that differ in the new index alone

abbrev pub Agree : Tree → Tree → Type 0
Agree u v = (p : List ℕ) → same new_changelog_path p ≡ false → u p ≡ v p

pub agree-refl : (u : Tree) → Agree u u
agree-refl u p e = refl

pub agree-with : (u v : Tree) (path : List ℕ) (x : Option (List ℕ)) → Agree u v → Agree (with_file u path x) (with_file v path x)
agree-with u v path x a p e = elim (bool (same path p)) [
  | inl h ↦ at u path p x h ∙ sym (at v path p x h)
  | inr h ↦ away u path p x h ∙ a p e ∙ sym (away v path p x h)
]

-- what is written at the new index alone changes nothing else
pub agree-new : (u v : Tree) (x : Option (List ℕ)) → Agree u v → Agree (with_file u new_changelog_path x) v
agree-new u v x a p e = away u new_changelog_path p x e ∙ a p e

-- whether what an operation does hangs on the file at this path
abbrev pub reads : List ℕ → Op → Bool
reads p (Append path bytes) = same path p
reads p (Cut path len) = same path p
reads p (Rename from to) = same from p
reads p (Remove path) = false
reads p (Create path bytes) = false
reads p (Sync path) = false
reads p Settle = false

abbrev pub reads_any : List ℕ → List Op → Bool
reads_any p ops = list_any (reads p) ops

cut-agree : (u v : Tree) (path : List ℕ) (len : ℕ) (f g : Option (List ℕ)) → f ≡ g → Agree u v → Agree (shortened u path len f) (shortened v path len g)
cut-agree u v path len None g e a = subst (λ x. Agree u (shortened v path len x)) e a
cut-agree u v path len (Some bytes) g e a = subst (λ x. Agree (shortened u path len (Some bytes)) (shortened v path len x)) e (agree-with u v path _ a)

rename-agree : (u v : Tree) (from to : List ℕ) (f g : Option (List ℕ)) → f ≡ g → Agree u v → Agree (renamed u from to f) (renamed v from to g)
rename-agree u v from to None g e a = subst (λ x. Agree u (renamed v from to x)) e a
rename-agree u v from to (Some bytes) g e a = subst (λ x. Agree (renamed u from to (Some bytes)) (renamed v from to x)) e (agree-with (with_file u from None) (with_file v from None) to (Some bytes) (agree-with u v from None a))

pub agree-op : (op : Op) (u v : Tree) → reads new_changelog_path op ≡ false → Agree u v → Agree (apply op u) (apply op v)
agree-op (Append path bytes) u v e a =
    subst (λ (x : Option (List ℕ)). Agree (apply (Append path bytes) u) (with_file v path (Some (unwrap_or x [] ++ bytes)))) (a path (same-sym path new_changelog_path e)) (agree-with u v path (Some (bytes_at u path ++ bytes)) a)
agree-op (Cut path len) u v e a = cut-agree u v path len (u path) (v path) (a path (same-sym path new_changelog_path e)) a
agree-op (Rename from to) u v e a = rename-agree u v from to (u from) (v from) (a from (same-sym from new_changelog_path e)) a
agree-op (Remove path) u v e a = agree-with u v path None a
agree-op (Create path bytes) u v e a = agree-with u v path (Some bytes) a
agree-op (Sync path) u v e a = a
agree-op Settle u v e a = a

pub agree-all : (ops : List Op) (u v : Tree) → reads_any new_changelog_path ops ≡ false → Agree u v → Agree (after_all ops u) (after_all ops v)
agree-all [] u v e a = a
agree-all (op ∷ ops) u v e a = agree-all ops (apply op u) (apply op v) (or-right (reads new_changelog_path op) _ e) (agree-op op u v (or-left _ _ e) a)

-- the rename of the new index is the append of its new entries
pub agree-published : (u v : Tree) (entry : List ℕ) → u new_changelog_path ≡ Some (bytes_at v changelog_index ++ entry) → Agree u v → Agree (apply (Rename new_changelog_path changelog_index) u) (apply (Append changelog_index entry) v)
agree-published u v entry e a =
    subst (λ (x : Option (List ℕ)). Agree (renamed u new_changelog_path changelog_index x) (apply (Append changelog_index entry) v)) (sym e)
    (agree-with (with_file u new_changelog_path None) v changelog_index (Some (bytes_at v changelog_index ++ entry)) (agree-new u v None a))

-- ---- the journal

-- The journal has a line for the changelog's index behind those of the appends before, and none for the new index.
pub import-lines : (t : Tree) (r next : Repo) (changes : List NewChange) → journal_of t r (Import changes) next ≡ journal_lines t (changes_before t r (Import changes) next) ++ record { name = codes "00changelog.i"; offset = length (bytes_at t changelog_index) } ∷ []
import-lines t r next changes =
    filter_map-append (journal_line_of t) (growth t r next ++ roots_renamed r next) (Append changelog_index (new_changelog_entry t r next) ∷ [])
    ∙ ap (λ l. l ++ record { name = codes "00changelog.i"; offset = length (bytes_at t changelog_index) } ∷ [])
    (filter_map-append (journal_line_of t) (growth t r next) (roots_renamed r next) ∙ sym (filter_map-append (journal_line_of t) (growth t r next) (Create new_changelog_path (new_changelog_index t r next) ∷ roots_renamed r next)))

-- ---- the whole list

not-new : (p : List ℕ) → is_quiet p ≡ false → same new_changelog_path p ≡ false
not-new p e = elim (bool (same new_changelog_path p)) [
  | inl h ↦ never (ap is_quiet (same-eq new_changelog_path p h) ∙ e)
  | inr h ↦ h
]

leaves-agree : (t u v : Tree) (rc bk : Bool) (roots dirstate marks : List ℕ) (growth : List Op) (publish : Op) → Agree u v → CommitLeaves t v rc bk roots dirstate marks growth publish → CommitLeaves t u rc bk roots dirstate marks growth publish
leaves-agree t u v rc bk roots dirstate marks growth publish a l = record {
  bytes = λ p e. bytes-same v u p (a p (not-new p e)) ∙ l.bytes p e;
  others = λ p e g h. a p (not-new p e) ∙ l.others p e g h;
  roots_are = a _ refl ∙ l.roots_are;
  dirstate_is = a _ refl ∙ l.dirstate_is;
  marks_are = a _ refl ∙ l.marks_are;
  journal = a _ refl ∙ l.journal;
  wlock = a _ refl ∙ l.wlock;
  lock = a _ refl ∙ l.lock;
}

first-still : (rc : Bool) (roots p : List ℕ) → touched p (first_of true roots) ≡ false → touched p (first_of rc roots) ≡ false
first-still true roots p e = e
first-still false roots p e = refl

first-unread : (rc : Bool) (roots : List ℕ) → reads_any new_changelog_path (first_of rc roots) ≡ false
first-unread true roots = refl
first-unread false roots = refl

second-unread : (bk : Bool) (dirstate marks : List ℕ) → reads_any new_changelog_path (second_of bk dirstate marks) ≡ false
second-unread true dirstate marks = refl
second-unread false dirstate marks = refl

module _ (t : Tree) (who : List ℕ) (rc bk : Bool) (roots dirstate marks : List ℕ) (backups : List BackupLine) (journal : List ℕ) (growth : List Op) (entry : List ℕ)
    (still : touched changelog_index growth ≡ false) (appends : list_all is_append growth ≡ true) (apart : (q : List ℕ) → is_quiet q ≡ true → touched q growth ≡ false) where
  abbrev prep : List Op
  prep = preparations t who (files_of rc bk roots dirstate marks) backups journal

  abbrev first : List Op
  first = first_of rc roots

  abbrev second : List Op
  second = second_of bk dirstate marks

  abbrev made : Op
  made = Create new_changelog_path (bytes_at t changelog_index ++ entry)

  abbrev published : Op
  published = Rename new_changelog_path changelog_index

  -- the tree where the new index is made
  abbrev grown : Tree
  grown = after_all growth (apply (Rename new_journal_path journal_path) (after_all prep t))

  abbrev real : Tree
  real = after_all first (apply made grown)

  abbrev other : Tree
  other = after_all first grown

  stages : (more : List Op) (publish : Op) → after_all (commit_list t who (files_of rc bk roots dirstate marks) backups journal growth more publish second) t ≡ after_all end (after_all second (apply publish (after_all more grown)))
  stages more publish =
      after_all-append (prep ++ (Rename new_journal_path journal_path ∷ (growth ++ more)) ++ (publish ∷ second)) end t
      ∙ ap (after_all end)
      (after_all-append (prep ++ (Rename new_journal_path journal_path ∷ (growth ++ more))) (publish ∷ second) t
      ∙ ap (after_all (publish ∷ second)) (after_all-append prep (Rename new_journal_path journal_path ∷ (growth ++ more)) t ∙ after_all-append growth more (apply (Rename new_journal_path journal_path) (after_all prep t))))

  index-still : bytes_at other changelog_index ≡ bytes_at t changelog_index
  index-still = bytes-same t other changelog_index
      (untouched first grown changelog_index (first-still rc roots changelog_index refl) ∙ untouched growth (apply (Rename new_journal_path journal_path) (after_all prep t)) changelog_index still
      ∙ untouched (Rename new_journal_path journal_path ∷ []) (after_all prep t) changelog_index refl
      ∙ untouched prep t changelog_index (touched-within is_quiet prep changelog_index (preparations-within is_quiet t who (files_of rc bk roots dirstate marks) backups journal refl refl refl refl (small-files rc bk roots dirstate marks)) refl))

  new-stands : real new_changelog_path ≡ Some (bytes_at other changelog_index ++ entry)
  new-stands = untouched first (apply made grown) new_changelog_path (first-still rc roots new_changelog_path refl) ∙ with_file-same grown new_changelog_path (Some (bytes_at t changelog_index ++ entry)) ∙ ap (λ l. Some (l ++ entry)) (sym index-still)

  before : Agree real other
  before = agree-all first (apply made grown) grown (first-unread rc roots) (agree-new grown grown (Some (bytes_at t changelog_index ++ entry)) (agree-refl grown))

  behind : Agree (after_all end (after_all second (apply published real))) (after_all end (after_all second (apply (Append changelog_index entry) other)))
  behind =
      agree-all end (after_all second (apply published real)) (after_all second (apply (Append changelog_index entry) other)) refl
      (agree-all second (apply published real) (apply (Append changelog_index entry) other) (second-unread bk dirstate marks) (agree-published real other entry new-stands before))

  -- what the whole list of an import leaves is what that of a commit leaves
  pub import-leaves : CommitLeaves t (after_all (commit_list t who (files_of rc bk roots dirstate marks) backups journal growth (made ∷ first) published second) t) rc bk roots dirstate marks growth (Append changelog_index entry)
  import-leaves =
      leaves-agree t _ (after_all (commit_list t who (files_of rc bk roots dirstate marks) backups journal growth first (Append changelog_index entry) second) t) rc bk roots dirstate marks growth (Append changelog_index entry)
      (subst (λ (u : Tree). Agree u (after_all (commit_list t who (files_of rc bk roots dirstate marks) backups journal growth first (Append changelog_index entry) second) t)) (sym (stages (made ∷ first) published))
      (subst (Agree (after_all end (after_all second (apply published real)))) (sym (stages first (Append changelog_index entry))) behind))
      (commit-leaves t who rc bk roots dirstate marks backups journal growth changelog_index entry refl appends apart)
