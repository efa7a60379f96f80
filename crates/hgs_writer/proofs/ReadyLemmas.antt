-- A commit with nothing in its way is ready.
use Rattle.std.proofs.Common.{◌≡◌, ◌⊎◌, ◌<◌, ◌≤◌, ℕ, List, [], ◌∷◌, ◌++◌, Bool, true, false, ◌||◌, length, inl, inr, refl, sym, ◌∙◌, ap, subst, arith, length-append}
use Rattle.std.specs.Prelude.{◌+◌, ◌^◌, None, OnOk, Some, Result, Ok, cond, find, nat_lt}
use Rattle.std.specs.List.{AllByRecursion, AllZip}
use Rattle.hex.specs.Hex.{IsBytes}
use Rattle.std.proofs.lemmas.Bool.Decides.{nat_tests}
use Rattle.hgs_bytes.specs.Bytes.{among, same}
use Rattle.hgs_bytes.specs.Text.{ascends}
use Rattle.hgs_bytes.specs.Theorems.ByteLemmas.{same-eq, same-refl}
use Rattle.hgs_files.specs.Tree.{Tree, bytes_at}
use Rattle.hgs_index.specs.declared.kinds.Which.TheVariants as limits
use Rattle.hgs_index.specs.Inline.{is_inline}
use Rattle.hgs_index.specs.Revision.{Parents, Revision, standing, with_revision_at}
use Rattle.hgs_model.specs.History.{History, changeset_revision, file_revision, filelog_with, history, manifest_revision, manifest_with, uses, with_changeset}
use Rattle.hgs_model.specs.Repo.{Changeset, Repo, TreeFile, tree_paths}
use Rattle.hgs_model.specs.Step.{copies_hold, new_changeset}
use Rattle.hgs_loading.specs.Small.{most_fncache}
use Rattle.hgs_model.specs.Valid.{new_paths as paths_of_files}
use Rattle.hgs_model.specs.declared.command.Command.TheVariants.{Commit}
use Rattle.hgs_model.specs.declared.command.NewChange.{NewChange}
use Rattle.hgs_model.specs.Theorems.CountLemmas.{filelog-one, filelog-same, uses-push, with-one}
use Rattle.hgs_model.specs.Theorems.HistoryLemmas.{length-changelog}
use Rattle.hgs_ops.specs.Growth.{begins_inline, growing_chunks, is_part, new_paths}
use Rattle.hgs_ops.specs.Theorems.GrowLemmas.{places-one}
use Rattle.hgs_ops.specs.Unhindered.{AreNewRevisions, HasRoom, HavePlaces, IsReady, IsUnhindered}
use Rattle.hgs_ops.specs.Theorems.Touch.{bool, or-left, or-right}
use Rattle.hgs_path.specs.declared.fncache.FncacheFault.{FncacheFault}
use Rattle.hgs_path.specs.declared.name.Ext.{Ext}
use Rattle.hgs_path.specs.declared.name.Ext.TheVariants.{I, D}
use Rattle.hgs_path.specs.Fncache.{clashes, is_path_of, listing, lists}
use Rattle.hgs_path.specs.ListedNames.{listed_file, names_of}
use Rattle.hgs_path.specs.StoreName.{listed_name, store_name}
use Rattle.hgs_revlog.specs.Load.{most_data, most_revisions}
use Rattle.hgs_stands.specs.Places.{changelog_data, changelog_index, fncache_path, manifest_data, manifest_index}
use Rattle.hgs_stands.specs.Stands.{Stands, has_inline_log}
use Rattle.hgs_steps.specs.Loaded.{has_inline}
use Rattle.hgs_steps.specs.Planned.{IsLoadedOf}
use Rattle.hgs_steps.specs.Steps.{as_fault}
use Rattle.hgs_steps.specs.declared.fault.PlanFault.{PlanFault}
use Rattle.hgs_steps.specs.declared.loaded.Loaded.{Loaded}
use Rattle.hgs_commit.specs.Changeset.{of_changelog, of_manifest}
use Rattle.hgs_commit.specs.Commit.{ClashOn, OfTexts, OfTrees, copies_tested, long_list, trees_in}
use Rattle.hgs_commit.specs.Files.{OfFile}
use Rattle.hgs_commit.specs.Obstacles.{ClashBehind, Obstacle, passes}
use Rattle.hgs_commit.specs.Texts.{OfLog}
use Rattle.hgs_commit.specs.Tree.{new_paths as new_among_files}
use Rattle.hgs_commit.specs.Trees.{OfGrown}
use Rattle.hgs_load.specs.declared.answer.ReadAnswer.{ReadAnswer}
use Rattle.hgs_writer.specs.CommitsBelow.{Below}
use Rattle.hgs_writer.specs.Growth.{IsGrownFileOf, IsWhole}
use Rattle.hgs_writer.specs.Logs.{IsLogOf}
use Rattle.hgs_legal.specs.ListsPaths.{ListsPaths}
use Rattle.hgs_legal.specs.NothingClashes.{NothingClashes}
use Rattle.hgs_writer.specs.BytePaths.{HasBytePaths}
use Rattle.hgs_writer.specs.Trees.{AreTextsOf}
use Rattle.hgs_writer.proofs.Basics.{never, ok-is}
use Rattle.hgs_writer.proofs.ClashLemmas.{clashes-swap, new-among, none-clash}
use Rattle.hgs_writer.proofs.CopyLemmas.{copies-same}
use Rattle.hgs_writer.proofs.FilelogLemmas.{listing-is}
use Rattle.hgs_writer.proofs.FormLemmas.{separate-chunks, separate-entries}
use Rattle.hgs_writer.proofs.FreshLemmas.{fresh-held}
use Rattle.hgs_writer.proofs.GrownTreeLemmas.{AreFree, history-next, new-paths-of}
use Rattle.hgs_writer.proofs.JournalLemmas.{AreShort, AreShortFiles, journal-short}
use Rattle.hgs_writer.proofs.LogLemmas.{whole-of}
use Rattle.hgs_writer.proofs.TreeLemmas.{new-paths-are}

-- ---- the file of a path

-- what holds of a path's file
pub record FileAt (t : Tree) (h : History) (c : Changeset) (path : List ℕ) : Type 0 where
  pub fresh : AreNewRevisions (h.filelog path) (filelog_with h c path)
  pub room : length (growing_chunks t path (h.filelog path) (filelog_with h c path)) ≤ most_data
  pub free : h.filelog path ≡ [] → (ext : Ext) → is_part (begins_inline (filelog_with h c path)) ext ≡ true → bytes_at t (store_name path ext) ≡ []

file-at : (t : Tree) (h : History) (c : Changeset) (tree : List TreeFile) (xs : List OfFile) (path : List ℕ) → AllZip (IsGrownFileOf t h c) tree xs → among path (tree_paths tree) ≡ true → FileAt t h c path
file-at t h c [] xs path all there = never (sym there)
file-at t h c (g ∷ tree) [] path all there = absurd all
file-at t h c (g ∷ tree) (x ∷ xs) path all there = by (bool (same path g.path)) (λ e. file-at t h c tree xs path all.1 e)
  where
    by : (same path g.path ≡ true) ⊎ (same path g.path ≡ false) → (among path (tree_paths tree) ≡ true → FileAt t h c path) → FileAt t h c path
    by (inl here) rec = subst (FileAt t h c) (sym (same-eq path g.path here)) (record { fresh = all.0.fresh; room = all.0.room; free = all.0.free })
    by (inr away) rec = rec (ap (λ b. b || among path (tree_paths tree)) (sym away) ∙ there)

short : (n : ℕ) → n ≤ most_data → n < 2 ^ 64
short n le = omega (arith, le)

all-short : (t : Tree) (h : History) (c : Changeset) (tree : List TreeFile) (xs : List OfFile) → AllZip (IsGrownFileOf t h c) tree xs → AllByRecursion (AreShortFiles t h.filelog (filelog_with h c)) (tree_paths tree)
all-short t h c [] xs all = tt
all-short t h c (g ∷ tree) [] all = absurd all
all-short t h c (g ∷ tree) (x ∷ xs) all = ((all.0.index_short, all.0.data_short), all-short t h c tree xs all.1)

-- a whole separate revlog of the tree
whole-small : (t : Tree) (f : OfLog) (revisions : List Revision) → f.log.inline ≡ false → IsLogOf t f revisions → IsWhole t f → (length (bytes_at t f.index) ≤ most_data) × (length (bytes_at t f.chunks) ≤ most_data)
whole-small t f revisions separate is whole = (omega (arith, separate-entries t f separate whole, is.entries.few), omega (arith, separate-chunks t f separate whole, is.entries.data_end))

-- what holds of each item that is among them
all-among : (P : List ℕ → Type 0) (xs : List (List ℕ)) → ((x : List ℕ) → among x xs ≡ true → P x) → AllByRecursion P xs
all-among P [] each = tt
all-among P (x ∷ xs) each = (each x (ap (λ b. b || among x xs) (same-refl x)), all-among P xs (λ y there. each y (more (same y x) (among y xs) there)))
  where
    more : (a b : Bool) → b ≡ true → (a || b) ≡ true
    more true b e = refl
    more false b e = e

among-all : (P : List ℕ → Type 0) (xs : List (List ℕ)) → AllByRecursion P xs → (x : List ℕ) → among x xs ≡ true → P x
among-all P [] all x there = never (sym there)
among-all P (y ∷ xs) all x there = by (bool (same x y)) (among-all P xs all.1 x)
  where
    by : (same x y ≡ true) ⊎ (same x y ≡ false) → (among x xs ≡ true → P x) → P x
    by (inl here) rec = subst P (sym (same-eq x y here)) all.0
    by (inr away) rec = rec (ap (λ b. b || among x xs) (sym away) ∙ there)

-- a list of filelogs that does not pass its limit is short
list-short : (t : Tree) (l : Loaded) (lines : List ℕ) → IsLoadedOf t l → long_list l (length lines) ≡ [] → length (bytes_at t fncache_path) < 2 ^ 64
list-short t l lines loads none = fits (nat_lt most_fncache (l.fncache_length + length lines)) refl none
  where
    within : (most k : ℕ) → nat_lt most k ≡ false → k ≤ most
    within most k h = grind (arith, nat_tests, h)

    fits : (b : Bool) → nat_lt most_fncache (l.fncache_length + length lines) ≡ b → (let os : List Obstacle = cond b (passes limits.Part ∷ []) [] in os) ≡ [] → length (bytes_at t fncache_path) < 2 ^ 64
    fits true e h = cc
    fits false e h = let few = within most_fncache (l.fncache_length + length lines) e in omega (arith, few, loads.fncache_length)

-- What the laws of lists of filelogs that have only names of paths say.
pub record ListLaws : Type 0 where
  pub used : (t : Tree) (r : Repo) → Stands t r → ListsPaths t r → (path : List ℕ) → uses r.changesets path ≡ true → IsBytes path
  pub listed : (t : Tree) (r next : Repo) → ListsPaths t r → NothingClashes t r next → (names : List (List ℕ)) → names_of (bytes_at t fncache_path) ≡ Ok names → (name path : List ℕ) (ext : Ext) → among name names ≡ true → among path (new_paths r next) ≡ true → listed_file name ≡ store_name path ext → listed_name path ext ≡ name

-- ---- the commit

module _ (laws : Below) (t : Tree) (r next : Repo) (l : Loaded) (s : Stands t r) (loads : IsLoadedOf t l) (plain_logs : has_inline l ≡ false) (form : has_inline l ≡ has_inline_log t) (changelog : IsLogOf t (of_changelog l.changelog) (history r.changesets).changelog) (manifest : IsLogOf t (of_manifest l.manifest) (history r.changesets).manifest) (n : NewChange) (parents : Parents)
    (ordered : ascends (paths_of_files n.files) ≡ true) (with_it : next.changesets ≡ r.changesets ++ new_changeset (history r.changesets) parents n ∷ []) (copies : copies_hold (history r.changesets) parents n.files ≡ Ok tt)
    (x : OfGrown × Parents) (files : AreFree t r l n parents x) (y : OfTexts × List Obstacle) (plain : y.1 ≡ []) (texts : AreTextsOf l (history r.changesets) (new_changeset (history r.changesets) parents n) y)
    (unclashed : ClashOn l n (trees_in l n parents t) None None) (new : standing (history r.changesets).changelog (changeset_revision (history r.changesets) (new_changeset (history r.changesets) parents n)).text parents ≡ None)
    (few : long_list l (length y.0.lines) ≡ []) (kept : ListsPaths t r) (named : HasBytePaths n) (list_laws : ListLaws) where
  abbrev h : History
  h = history r.changesets

  abbrev c : Changeset
  c = new_changeset h parents n

  paths : new_paths r next ≡ tree_paths c.tree
  paths = new-paths-of r next c with_it (ap ascends (new-paths-are h parents n.files) ∙ ordered)

  logs : history next.changesets ≡ with_changeset h c
  logs = history-next r next c with_it

  new-there : (path : List ℕ) → among path (new_paths r next) ≡ true → among path (tree_paths c.tree) ≡ true
  new-there path there = ap (among path) (sym paths) ∙ there

  used-next : (path : List ℕ) → uses next.changesets path ≡ (uses r.changesets path || among path (new_paths r next))
  used-next path = ap (λ (all : List Changeset). uses all path) with_it ∙ uses-push r.changesets c path ∙ ap (λ ps. uses r.changesets path || among path ps) (sym paths)

  new-bytes : (path : List ℕ) → among path (new_paths r next) ≡ true → IsBytes path
  new-bytes path there = among-all IsBytes (paths_of_files n.files) named path (ap (among path) (sym (paths ∙ new-paths-are h parents n.files)) ∙ there)

  used-bytes : (path : List ℕ) → uses next.changesets path ≡ true → IsBytes path
  used-bytes path used = by (bool (uses r.changesets path))
    where
      by : (uses r.changesets path ≡ true) ⊎ (uses r.changesets path ≡ false) → IsBytes path
      by (inl before) = list_laws.used t r s kept path before
      by (inr unused) = new-bytes path (ap (λ b. b || among path (new_paths r next)) (sym unused) ∙ sym (used-next path) ∙ used)

  file : (path : List ℕ) → among path (new_paths r next) ≡ true → FileAt t h c path
  file path there = file-at t h c c.tree files.trees.trees.files.0 path files.all (new-there path there)

  -- ---- names

  told : ClashBehind (listing l.fncache) (new_among_files files.trees.trees.files.0) None None
  told =
      let trees = files.trees.trees in
      let first = files.trees.first in
      let second = files.trees.second in
      let free : copies_tested trees.first.1 trees.second.1 n.files ≡ Ok tt = (λ i. copies_tested (first i).1 (second i).1 n.files) ∙ copies-same h parents n.files ∙ ap as_fault copies in
      subst (λ (z : Result (Unit {0}) PlanFault). OnOk z (ClashBehind (listing l.fncache) (new_among_files trees.files.0) None None)) free
      (subst (λ (z : Result OfTrees ReadAnswer). ClashOn l n z None None) files.trees.read unclashed)

  first-used : (path : List ℕ) → among path (new_paths r next) ≡ true → uses r.changesets path ≡ false → among path (new_among_files files.trees.trees.files.0) ≡ true
  first-used path there unused = new-among t h c c.tree files.trees.trees.files.0 path files.all (new-there path there) (laws.unused r.changesets path unused)

  clash-of : (path other : List ℕ) → IsBytes path → IsBytes other → among path (new_paths r next) ≡ true → uses r.changesets path ≡ false → (is_path_of (listing l.fncache) other ≡ true) ⊎ (among other (new_among_files files.trees.trees.files.0) ≡ true) → clashes path other ≡ false
  clash-of path other bytes other_bytes there unused is = none-clash (listing l.fncache) (new_among_files files.trees.trees.files.0) path other bytes other_bytes told (first-used path there unused) is

  -- a used path is listed
  listed-path : (path : List ℕ) → uses r.changesets path ≡ true → is_path_of (listing l.fncache) path ≡ true
  listed-path path used = ap (λ (list : List ℕ → Ext → Bool). is_path_of list path) (listing-is t r l s loads) ∙ ap (λ b. b || lists s.fncache.names path D) (s.fncache.listed path I used refl)

  no-clash : (path other : List ℕ) → among path (new_paths r next) ≡ true → uses next.changesets other ≡ true → clashes path other ≡ false
  no-clash path other there used = by (bool (uses r.changesets path)) (bool (uses r.changesets other))
    where
      new-other : uses r.changesets other ≡ false → among other (new_paths r next) ≡ true
      new-other unused = ap (λ b. b || among other (new_paths r next)) (sym unused) ∙ sym (used-next other) ∙ used

      path_bytes : IsBytes path
      path_bytes = new-bytes path there

      other_bytes : IsBytes other
      other_bytes = used-bytes other used

      by : (uses r.changesets path ≡ true) ⊎ (uses r.changesets path ≡ false) → (uses r.changesets other ≡ true) ⊎ (uses r.changesets other ≡ false) → clashes path other ≡ false
      by (inl a) (inl b) = s.revlogs.names path other a b
      by (inl a) (inr b) = clashes-swap other path (clash-of other path other_bytes path_bytes (new-other b) b (inl (listed-path path a)))
      by (inr a) (inl b) = clash-of path other path_bytes other_bytes there a (inl (listed-path other b))
      by (inr a) (inr b) = clash-of path other path_bytes other_bytes there a (inr (first-used other (new-other b) b))

  own-name : (names : List (List ℕ)) → names_of (bytes_at t fncache_path) ≡ Ok names → (name path : List ℕ) (ext : Ext) → among name names ≡ true → among path (new_paths r next) ≡ true → listed_file name ≡ store_name path ext → listed_name path ext ≡ name
  own-name = list_laws.listed t r next kept nothing
    where
      nothing : NothingClashes t r next
      nothing names read path there unused other other_bytes is = clash-of path other (new-bytes path there) other_bytes there unused (inl (ap (λ (list : List ℕ → Ext → Bool). is_path_of list other) (listing-is t r l s loads ∙ ap lists (ok-is {E = FncacheFault} s.fncache.names names (sym s.fncache.text ∙ read))) ∙ is))

  -- ---- revisions

  fresh-file : (path : List ℕ) → AreNewRevisions (h.filelog path) (filelog_with h c path)
  fresh-file path = by (bool (among path (tree_paths c.tree))) (bool (uses r.changesets path))
    where
      held : (uses r.changesets path ≡ true) ⊎ (uses r.changesets path ≡ false) → AreNewRevisions (h.filelog path) (h.filelog path)
      held (inl used) = fresh-held (is_inline (bytes_at t (store_name path I))) (bytes_at t (store_name path I)) (bytes_at t (store_name path D)) (h.filelog path) (s.revlogs.filelogs path used)
      held (inr unused) = subst (λ (log : List Revision). AreNewRevisions log log) (sym (laws.unused r.changesets path unused)) (record { texts = tt; different = refl; not_null = refl })

      by : (among path (tree_paths c.tree) ≡ true) ⊎ (among path (tree_paths c.tree) ≡ false) → (uses r.changesets path ≡ true) ⊎ (uses r.changesets path ≡ false) → AreNewRevisions (h.filelog path) (filelog_with h c path)
      by (inl there) used = (file-at t h c c.tree files.trees.trees.files.0 path files.all there).fresh
      by (inr away) used = subst (AreNewRevisions (h.filelog path)) (sym (filelog-same h c path away)) (held used)

  -- ---- sizes

  changelog-small : (length (bytes_at t changelog_index) ≤ most_data) × (length (bytes_at t changelog_data) ≤ most_data)
  changelog-small =
      whole-small t (of_changelog l.changelog) h.changelog (or-left l.changelog.inline l.manifest.inline plain_logs) changelog
      (whole-of laws t (of_changelog l.changelog) h.changelog s.revlogs.changelog loads.changelog)

  manifest-small : (length (bytes_at t manifest_index) ≤ most_data) × (length (bytes_at t manifest_data) ≤ most_data)
  manifest-small =
      whole-small t (of_manifest l.manifest) h.manifest (or-right l.changelog.inline l.manifest.inline plain_logs) manifest
      (whole-of laws t (of_manifest l.manifest) h.manifest s.revlogs.manifest loads.manifest)

  filelog-places : (path : List ℕ) → among path (new_paths r next) ≡ true → HavePlaces (length (growing_chunks t path (h.filelog path) (filelog_with h c path))) (h.filelog path) (filelog_with h c path)
  filelog-places path there = by (filelog-one h c path)
    where
      by : (filelog_with h c path ≡ h.filelog path) ⊎ ((f : TreeFile) × (find (λ (g : TreeFile). same g.path path) c.tree ≡ Some f) × (filelog_with h c path ≡ h.filelog path ++ file_revision h c f ∷ []))
          → HavePlaces (length (growing_chunks t path (h.filelog path) (filelog_with h c path))) (h.filelog path) (filelog_with h c path)
      by (inl same_log) = places-one (length (growing_chunks t path (h.filelog path) (filelog_with h c path))) (h.filelog path) (filelog_with h c path) (changeset_revision h c) (inl same_log) (file path there).room
      by (inr (f, found, more)) = places-one (length (growing_chunks t path (h.filelog path) (filelog_with h c path))) (h.filelog path) (filelog_with h c path) (file_revision h c f) (inr more) (file path there).room

  one-more : length next.changesets ≡ length (with_changeset h c).changelog
  one-more =
      let pushed = ap (λ o. length (with_revision_at o h.changelog (changeset_revision h c))) new in
      omega (arith, ap length with_it, length-append r.changesets (c ∷ []), pushed, length-append h.changelog (changeset_revision h c ∷ []), length-changelog r s.repository)

  room : HasRoom t r next
  room = record {
    changesets = subst (λ k. k ≤ most_revisions) (sym one-more) (texts.changesets_few plain);
    changelog = subst (λ (k : History). HavePlaces (length (bytes_at t changelog_data)) h.changelog k.changelog) (sym logs)
        (places-one (length (bytes_at t changelog_data)) h.changelog (with_changeset h c).changelog (changeset_revision h c) (with-one h.changelog (changeset_revision h c)) changelog-small.1);
    manifest = subst (λ (k : History). HavePlaces (length (bytes_at t manifest_data)) h.manifest k.manifest) (sym logs)
        (places-one (length (bytes_at t manifest_data)) h.manifest (manifest_with h c) (manifest_revision h c) (with-one h.manifest (manifest_revision h c)) manifest-small.1);
    filelogs = λ path there. subst (λ (k : History). HavePlaces (length (growing_chunks t path (h.filelog path) (k.filelog path))) (h.filelog path) (k.filelog path)) (sym logs) (filelog-places path there);
  }

  shorts : AreShort t r next
  shorts = record {
    filelogs = subst (λ (k : History). AllByRecursion (AreShortFiles t h.filelog k.filelog) (new_paths r next)) (sym logs) (subst (AllByRecursion (AreShortFiles t h.filelog (filelog_with h c))) (sym paths) (all-short t h c c.tree files.trees.trees.files.0 files.all));
    list = list-short t l y.0.lines loads few;
    manifest = (short (length (bytes_at t manifest_index)) manifest-small.0, short (length (bytes_at t manifest_data)) manifest-small.1);
    changelog = (short (length (bytes_at t changelog_index)) changelog-small.0, short (length (bytes_at t changelog_data)) changelog-small.1);
  }

  unhindered : IsUnhindered t r next
  unhindered = record {
    room = room;
    separate = sym form ∙ plain_logs;
    changelog = subst (λ (k : History). AreNewRevisions h.changelog k.changelog) (sym logs) (texts.changesets_fresh plain);
    manifest = subst (λ (k : History). AreNewRevisions h.manifest k.manifest) (sym logs) (texts.manifests_fresh plain);
    filelogs = λ path. subst (λ (k : History). AreNewRevisions (h.filelog path) (k.filelog path)) (sym logs) (fresh-file path);
    names = no-clash;
    listed = own-name;
    free = λ path ext there unused part. (file path there).free (laws.unused r.changesets path unused) ext (ap (λ (k : History). is_part (begins_inline (k.filelog path)) ext) (sym logs) ∙ part);
  }

  pub ready : IsReady t r (Commit n) next
  ready = (unhindered, record { paths = all-among IsBytes (new_paths r next) new-bytes; sizes = journal-short t r next n shorts })
