-- A transaction under its locks is that of the tree without them.
use Rattle.std.proofs.Common.{◌≡◌, ℕ, List, [], ◌∷◌, ◌++◌, map, Bool, true, false, ◌||◌, refl, ◌∙◌, ap, length}
use Rattle.std.specs.Prelude.{unwrap_or, if◌then◌else◌}
use Rattle.std.specs.List.{AllByRecursion}
use Rattle.hgs_bytes.specs.Bytes.{among, same}
use Rattle.hgs_files.specs.declared.op.Op.{Op}
use Rattle.hgs_files.specs.declared.op.Op.TheVariants.{Append, Create, Rename}
use Rattle.hgs_files.specs.Tree.{Tree, after_all}
use Rattle.hgs_journal.specs.Names.{locks, new_name, place}
use Rattle.hgs_journal.specs.Covers.{is_loose}
use Rattle.hgs_legal.specs.Theorems.TreeFacts.{other-path, same-sym}
use Rattle.hgs_machine.specs.Locks.{AreLocked}
use Rattle.hgs_model.specs.Repo.{Repo}
use Rattle.hgs_model.specs.declared.command.Command.{Command}
use Rattle.hgs_model.specs.declared.command.Command.TheVariants.{Commit, Import, Move, Mark, Unmark}
use Rattle.hgs_ops.specs.Growth.{growth}
use Rattle.hgs_ops.specs.Operations.{changes_before, lock_path, new_changelog_index, new_changelog_path, publishing, roots_renamed, strays, wlock_path}
use Rattle.hgs_ops.specs.Replaced.{new_rename, new_roots, roots_change}
use Rattle.hgs_ops.specs.Theorems.Beside.{AreSameAside, publishing-same}
use Rattle.hgs_ops.specs.Theorems.Beside.{changes-same as same-before}
use Rattle.hgs_ops.specs.Theorems.CommitLemmas.{growth-quiet}
use Rattle.hgs_journal.specs.Theorems.Touched.{touched, touched-append, touches}
use Rattle.hgs_stands.specs.Places.{changelog_index}
use Rattle.hgs_stands.specs.Same.{AreStrays}
use Rattle.hgs_stands.specs.Stands.{Stands}
use Rattle.hgs_transaction.specs.OfTransaction.{ArePartsOf, IsOfTree}
use Rattle.hgs_transaction.specs.Parts.{all_changes, change_op, file_name, is_plain}
use Rattle.hgs_transaction.specs.declared.parts.Change.{Change}
use Rattle.hgs_transaction.specs.declared.parts.Change.TheVariants as changes
use Rattle.hgs_transaction.specs.declared.parts.Parts.{Parts}
use Rattle.hgs_transaction.specs.declared.parts.ReplacedFile.{ReplacedFile}
use Rattle.hgs_transaction.specs.declared.parts.ReplacedFile.TheVariants.{PhaseRoots, Dirstate, Bookmarks}
use Rattle.hgs_transaction.specs.declared.parts.Replacing.{Replacing}
use Rattle.hgs_writer.proofs.LockLemmas.{locks-apart}

-- two trees are the same but for their locks
abbrev pub AreSameBeside : Tree → Tree → Type 0
AreSameBeside t u = (path : List ℕ) → same path wlock_path ≡ false → same path lock_path ≡ false → u path ≡ t path

pub same-beside : (who : List ℕ) (t : Tree) (locking : List Op) → AreLocked who t locking → AreSameBeside t (after_all locking t)
same-beside who t locking locked path w l =
    locks-apart who t locking path locked (other-path wlock_path path (same-sym path wlock_path w)) (other-path lock_path path (same-sym path lock_path l))

-- ---- a tree that stands

left-false : (a b : Bool) → (a || b) ≡ false → a ≡ false
left-false true b e = cc
left-false false b e = refl

-- what is among neither is another path
pub not-lock : (path : List ℕ) → among path locks ≡ false → (same path wlock_path ≡ false) × (same path lock_path ≡ false)
not-lock path e =
    (left-false (same path wlock_path) (same path lock_path || false) e, by (same path wlock_path) (same path lock_path) e)
  where
    by : (a b : Bool) → (a || (b || false)) ≡ false → b ≡ false
    by true b e = cc
    by false b e = left-false b false e

abbrev pub LooseLaw : Type 0
LooseLaw = (strays : List (List ℕ)) (t u : Tree) (r : Repo) → AreStrays strays → ((path : List ℕ) → is_loose strays path ≡ false → u path ≡ t path) → Stands t r → Stands u r

pub stands-beside : LooseLaw → AreStrays strays → (t u : Tree) (r : Repo) → AreSameBeside t u → Stands t r → Stands u r
stands-beside loose are t u r beside s =
    loose strays t u r are (λ path free. let n = not-lock path (left-false (among path locks) (among path strays) free) in beside path n.0 n.1) s

-- ---- the changes of a transaction

-- it appends to no lock
abbrev IsApart : Change → Type 0
IsApart (changes.Append a) = (same a.path wlock_path ≡ false) × (same a.path lock_path ≡ false)
IsApart (changes.Replace x) = Unit {0}
IsApart (changes.MakeIndex bytes) = Unit {0}
IsApart (changes.RenameIndex before) = Unit {0}

abbrev AreApart : List Change → Type 0
AreApart cs = AllByRecursion IsApart cs

apart-both : (cs ds : List Change) → AreApart cs → AreApart ds → AreApart (cs ++ ds)
apart-both [] ds a b = b
apart-both (c ∷ cs) ds a b = (a.0, apart-both cs ds a.1 b)

replaced-apart : (files : List Replacing) → AreApart (map (λ x. changes.Replace x) files)
replaced-apart [] = tt
replaced-apart (x ∷ files) = (tt, replaced-apart files)

append-apart : (path bytes : List ℕ) (rest : List Op) (q : List ℕ) → touched q (Append path bytes ∷ rest) ≡ false → (same path q ≡ false) × (touched q rest ≡ false)
append-apart path bytes rest q e = by (same path q) (touched q rest) e
  where
    by : (a b : Bool) → (a || b) ≡ false → (a ≡ false) × (b ≡ false)
    by true b e = cc
    by false b e = (refl, e)

rename-apart : (from to : List ℕ) (rest : List Op) (q : List ℕ) → touched q (Rename from to ∷ rest) ≡ false → touched q rest ≡ false
rename-apart from to rest q e = by (touches q (Rename from to)) (touched q rest) e
  where
    by : (a b : Bool) → (a || b) ≡ false → b ≡ false
    by true b e = cc
    by false b e = e

create-apart : (path bytes : List ℕ) (rest : List Op) (q : List ℕ) → touched q (Create path bytes ∷ rest) ≡ false → touched q rest ≡ false
create-apart path bytes rest q e = by (touches q (Create path bytes)) (touched q rest) e
  where
    by : (a b : Bool) → (a || b) ≡ false → b ≡ false
    by true b e = cc
    by false b e = e

apart-all : (cs : List Change) → touched wlock_path (map change_op cs) ≡ false → touched lock_path (map change_op cs) ≡ false → AreApart cs
apart-all [] w l = tt
apart-all (changes.Append a ∷ cs) w l =
    let x = append-apart a.path a.bytes (map change_op cs) wlock_path w in
    let y = append-apart a.path a.bytes (map change_op cs) lock_path l in
    ((x.0, y.0), apart-all cs x.1 y.1)
apart-all (changes.Replace x ∷ cs) w l = (
  tt,
  apart-all cs (rename-apart (place (is_plain x.file) (new_name (file_name x.file))) (place (is_plain x.file) (file_name x.file)) (map change_op cs) wlock_path w)
      (rename-apart (place (is_plain x.file) (new_name (file_name x.file))) (place (is_plain x.file) (file_name x.file)) (map change_op cs) lock_path l),
)
apart-all (changes.MakeIndex bytes ∷ cs) w l = (tt, apart-all cs (create-apart new_changelog_path bytes (map change_op cs) wlock_path w) (create-apart new_changelog_path bytes (map change_op cs) lock_path l))
apart-all (changes.RenameIndex before ∷ cs) w l =
    (tt, apart-all cs (rename-apart new_changelog_path changelog_index (map change_op cs) wlock_path w) (rename-apart new_changelog_path changelog_index (map change_op cs) lock_path l))

replaced-same : (t u : Tree) (file : ReplacedFile) → AreSameBeside t u → u (place (is_plain file) (file_name file)) ≡ t (place (is_plain file) (file_name file))
replaced-same t u PhaseRoots beside = beside (place false (file_name PhaseRoots)) refl refl
replaced-same t u Dirstate beside = beside (place true (file_name Dirstate)) refl refl
replaced-same t u Bookmarks beside = beside (place true (file_name Bookmarks)) refl refl

one-same : (t u : Tree) (c : Change) → AreSameBeside t u → IsApart c → IsOfTree u c → IsOfTree t c
one-same t u (changes.Append a) beside apart is = is ∙ ap (λ o. length (unwrap_or o [])) (beside a.path apart.0 apart.1)
one-same t u (changes.Replace x) beside apart is = is ∙ replaced-same t u x.file beside
one-same t u (changes.MakeIndex bytes) beside apart is = tt
one-same t u (changes.RenameIndex before) beside apart is = is ∙ ap (λ o. length (unwrap_or o [])) (beside changelog_index refl refl)

standing-same : (t u : Tree) (cs : List Change) → AreSameBeside t u → AreApart cs → AllByRecursion (IsOfTree u) cs → AllByRecursion (IsOfTree t) cs
standing-same t u [] beside apart all = tt
standing-same t u (c ∷ cs) beside apart all = (one-same t u c beside apart.0 all.0, standing-same t u cs beside apart.1 all.1)

-- the changes before the publishing operation name no lock, nor does that operation, and both are the same of the other tree
pub record AreSameChanges (t u : Tree) (r : Repo) (command : Command) (next : Repo) : Type 0 where
  pub before : changes_before u r command next ≡ changes_before t r command next
  pub publishing_op : publishing u r command next ≡ publishing t r command next
  pub no_wlock : touched wlock_path (changes_before u r command next) ≡ false
  pub no_lock : touched lock_path (changes_before u r command next) ≡ false
  pub publishes_no_wlock : touched wlock_path (publishing u r command next ∷ []) ≡ false
  pub publishes_no_lock : touched lock_path (publishing u r command next ∷ []) ≡ false

pub parts-same : (t u : Tree) (r : Repo) (command : Command) (next : Repo) (p : Parts) → AreSameBeside t u → AreSameChanges t u r command next → ArePartsOf u r command next p → ArePartsOf t r command next p
parts-same t u r command next p beside same are =
    let before = apart-all p.before (ap (touched wlock_path) are.before ∙ same.no_wlock) (ap (touched lock_path) are.before ∙ same.no_lock) in
    let publish = apart-all (p.publishing ∷ []) (ap (λ o. touched wlock_path (o ∷ [])) are.publish ∙ same.publishes_no_wlock) (ap (λ o. touched lock_path (o ∷ [])) are.publish ∙ same.publishes_no_lock) in
    record {
      before = are.before ∙ same.before;
      publish = are.publish ∙ same.publishing_op;
      after = are.after;
      replaced = are.replaced;
      standing = standing-same t u (all_changes p) beside (apart-both p.before (p.publishing ∷ map (λ x. changes.Replace x) p.after) before (publish.0, replaced-apart p.after)) are.standing;
    }

-- ---- each command

-- so they are but for locks and strays
pub beside-aside : (t u : Tree) → AreSameBeside t u → AreSameAside t u
beside-aside t u beside path free = let n = not-lock path (left-false (among path locks) (among path strays) free) in beside path n.0 n.1

roots-untouched : (b : Bool) (next : Repo) (q : List ℕ) → touched q (new_rename (new_roots next) ∷ []) ≡ false → touched q (if b then new_rename (new_roots next) ∷ [] else []) ≡ false
roots-untouched true next q e = e
roots-untouched false next q e = refl

or-false : (a b : Bool) → a ≡ false → b ≡ false → (a || b) ≡ false
or-false a b e f = ap (λ x. x || b) e ∙ f

changes-untouched : (t : Tree) (r next : Repo) (q : List ℕ) → touched q (growth t r next) ≡ false → touched q (new_rename (new_roots next) ∷ []) ≡ false → touched q (growth t r next ++ roots_renamed r next) ≡ false
changes-untouched t r next q g e = touched-append q (growth t r next) (roots_renamed r next) g (roots-untouched (roots_change r next) next q e)

-- and where a file is made between the growth and the rename of the phase roots
making-untouched : (t : Tree) (r next : Repo) (path bytes q : List ℕ) → touched q (growth t r next) ≡ false → touches q (Create path bytes) ≡ false → touched q (new_rename (new_roots next) ∷ []) ≡ false → touched q (growth t r next ++ Create path bytes ∷ roots_renamed r next) ≡ false
making-untouched t r next path bytes q g c e =
    touched-append q (growth t r next) (Create path bytes ∷ roots_renamed r next) g (or-false (touches q (Create path bytes)) (touched q (roots_renamed r next)) c (roots-untouched (roots_change r next) next q e))

abbrev NoLock : Tree → Repo → Command → Repo → List ℕ → Type 0
NoLock u r command next lock = (touched lock (changes_before u r command next) ≡ false) × (touched lock (publishing u r command next ∷ []) ≡ false)

names-no-lock : (u : Tree) (r : Repo) (command : Command) (next : Repo) → NoLock u r command next wlock_path × NoLock u r command next lock_path
names-no-lock u r (Commit n) next = ((changes-untouched u r next wlock_path (growth-quiet u r next wlock_path refl) refl, refl), (changes-untouched u r next lock_path (growth-quiet u r next lock_path refl) refl, refl))
names-no-lock u r (Import changes) next = (
  (making-untouched u r next new_changelog_path (new_changelog_index u r next) wlock_path (growth-quiet u r next wlock_path refl) refl refl, refl),
  (making-untouched u r next new_changelog_path (new_changelog_index u r next) lock_path (growth-quiet u r next lock_path refl) refl refl, refl),
)
names-no-lock u r (Move rev phase force) next = ((refl, refl), (refl, refl))
names-no-lock u r (Mark name rev) next = ((refl, refl), (refl, refl))
names-no-lock u r (Unmark name) next = ((refl, refl), (refl, refl))

pub changes-same : (t u : Tree) (r : Repo) (command : Command) (next : Repo) → AreSameBeside t u → AreSameChanges t u r command next
changes-same t u r command next beside =
    let apart = names-no-lock u r command next in
    record {
      before = same-before t u (beside-aside t u beside) r command next;
      publishing_op = publishing-same t u (beside-aside t u beside) r command next;
      no_wlock = apart.0.0;
      no_lock = apart.1.0;
      publishes_no_wlock = apart.0.1;
      publishes_no_lock = apart.1.1;
    }
