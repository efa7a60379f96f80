-- The filelogs of records that are laid one after another: their paths, and the names of those that are new.
use Rattle.std.proofs.Common.{◌≡◌, ◌⊎◌, ℕ, ◌<◌, List, [], ◌∷◌, ◌++◌, Bool, true, false, ◌||◌, length, drop, map, flat_map, refl, sym, ◌∙◌, ap, subst, inl, inr, arith, append_assoc, append-nil, length-append}
use Rattle.std.specs.Prelude.{◌==◌, nat_le, if◌then◌else◌}
use Rattle.std.specs.List.{AllZip}
use Rattle.hgs_bytes.specs.Bytes.{IsPrefixOf, among, same}
use Rattle.hgs_bytes.specs.Theorems.ByteLemmas.{same-eq}
use Rattle.hgs_files.specs.declared.op.Op.TheVariants.{Append}
use Rattle.hgs_files.specs.Tree.{Tree, after_all, bytes_at}
use Rattle.hgs_index.specs.Either.{chunk_bytes}
use Rattle.hgs_index.specs.Inline.{is_inline}
use Rattle.hgs_index.specs.Manifest.{Row}
use Rattle.hgs_index.specs.Revision.{Parents, Revision}
use Rattle.hgs_index.specs.Revlog.{Holds, Item, Stored, chunk_of, index_bytes, items}
use Rattle.hgs_index.specs.declared.entry.Header.{Header}
use Rattle.hgs_model.specs.declared.command.Command.TheVariants.{Import}
use Rattle.hgs_model.specs.declared.command.NewChange.{NewChange}
use Rattle.hgs_model.specs.declared.files.NewFile.{NewFile}
use Rattle.hgs_model.specs.Held.{IsPlacedIn}
use Rattle.hgs_model.specs.History.{EachChangeset, History, filelog_with, history, history_from, in_order, no_history, rows_of, uses, with_changeset}
use Rattle.hgs_model.specs.IsRepo.{IsNextChangeset, IsRepo}
use Rattle.hgs_model.specs.Repo.{Changeset, Repo, TreeFile, tree_paths}
use Rattle.hgs_model.specs.Step.{new_changeset, new_file, sets_bookmark}
use Rattle.hgs_model.specs.Valid.{IsValid, new_paths as paths_of_files}
use Rattle.hgs_model.specs.Theorems.CountLemmas.{IsSound, sound-more, unused-empty}
use Rattle.hgs_model.specs.Theorems.HistoryLemmas.{history_from-extends}
use Rattle.hgs_model.specs.Theorems.NewChangesetLemmas.{commit-keeps, step_commit-did}
use Rattle.hgs_model.specs.Theorems.PlacedLemmas.{files-placed}
use Rattle.hgs_path.specs.StoreName.{listed_name, store_name}
use Rattle.hgs_path.specs.declared.name.Ext.{Ext}
use Rattle.hgs_path.specs.declared.name.Ext.TheVariants.{I, D}
use Rattle.hgs_stands.specs.Places.{changelog_index}
use Rattle.hgs_stands.specs.Stands.{Stands}
use Rattle.hgs_ops.specs.Growth.{appended, begins_inline, growth, grows_inline, most_inline, new_changelog_entry, new_chunks, new_data, new_entries, new_items, new_names_of, new_paths}
use Rattle.hgs_ops.specs.Laid.{AreLaid, Record, appended_by, changes_of, laid, names_with, repo_behind}
use Rattle.hgs_ops.specs.Operations.{operations, transaction_of}
use Rattle.hgs_ops.specs.Replaced.{new_bookmarks, new_dirstate, roots_change, roots_of}
use Rattle.hgs_ops.specs.Theorems.CommitTree.{CommitLeaves}
use Rattle.hgs_ops.specs.Theorems.FileGrowth.{added, form}
use Rattle.hgs_ops.specs.Theorems.GrowLemmas.{drop-front}
use Rattle.hgs_ops.specs.Theorems.StandsCommit.{GrowthFacts, file-data-grows, file-index-grows, paths-used, store-published}
use Rattle.hgs_ops.specs.Theorems.Touch.{bool, never}
use Rattle.hgs_ops.proofs.ImportSteps.{import-facts, import-left, only-growth}
use Rattle.hgs_ops.proofs.RecordLemmas.{IsImport}

-- ---- the paths

trees-named : (h : History) (parents : Parents) (files : List NewFile) → tree_paths (map (new_file h parents) files) ≡ paths_of_files files
trees-named h parents [] = refl
trees-named h parents (f ∷ files) = ap (λ l. f.path ∷ l) (trees-named h parents files)

-- the changesets behind those that there were, whose files have the paths of the records
pub record Added (r : Repo) (records : List Record) : Type 0 where
  pub changesets : List Changeset
  pub behind : (repo_behind r records).changesets ≡ r.changesets ++ changesets
  pub paths : flat_map (λ (c : Changeset). tree_paths c.tree) changesets ≡ flat_map (λ (n : NewChange). paths_of_files n.files) (changes_of records)

records-added : (t : Tree) (r : Repo) (records : List Record) → IsRepo r → AreLaid t r records → Added r records
records-added t r [] is all = record { changesets = []; behind = sym (append-nil r.changesets); paths = refl }
records-added t r (x ∷ records) is all =
    let did = step_commit-did r x.0 x.1 all.1.0 is all.1.1 in
    let c : Changeset = new_changeset (history r.changesets) did.parents x.0 in
    let rest = records-added (after_all (laid t r x.0 x.1) t) x.1 records (commit-keeps r x.0 x.1 all.1.0 is all.0 all.1.1) all.3 in
    record {
      changesets = c ∷ rest.changesets;
      behind = rest.behind ∙ ap (λ (y : Repo). y.changesets ++ rest.changesets) did.is ∙ append_assoc r.changesets (c ∷ []) rest.changesets;
      paths = (let e = trees-named (history r.changesets) did.parents x.0.files in let f = rest.paths in λ i. e i ++ f i);
    }

pub records-paths : (t : Tree) (r : Repo) (records : List Record) → IsRepo r → AreLaid t r records → new_paths r (repo_behind r records) ≡ in_order (flat_map (λ (n : NewChange). paths_of_files n.files) (changes_of records))
records-paths t r records is all =
    let a = records-added t r records is all in
    ap (λ (l : List Changeset). in_order (flat_map (λ (c : Changeset). tree_paths c.tree) l)) (ap (drop (length r.changesets)) a.behind ∙ drop-front r.changesets a.changesets) ∙ ap in_order a.paths

-- ---- a used path has revisions

among-zip : (h : History) (c : Changeset) (tree : List TreeFile) (rows : List Row) (path : List ℕ) → AllZip (IsPlacedIn (filelog_with h c)) tree rows → among path (tree_paths tree) ≡ true → 0 < length (filelog_with h c path)
among-zip h c [] rows path all e = never (sym e)
among-zip h c (f ∷ tree) [] path all e = absurd all
among-zip h c (f ∷ tree) (row ∷ rows) path all e = by (bool (same path f.path)) (among-zip h c tree rows path all.1)
  where
    by : (same path f.path ≡ true) ⊎ (same path f.path ≡ false) → (among path (tree_paths tree) ≡ true → 0 < length (filelog_with h c path)) → 0 < length (filelog_with h c path)
    by (inl g) rec = subst (λ q. 0 < length (filelog_with h c q)) (sym (same-eq path f.path g)) (let lt = all.0.below in omega (arith, lt))
    by (inr g) rec = rec (sym (ap (λ z. z || among path (tree_paths tree)) g) ∙ e)

longer : (old all : List Revision) → IsPrefixOf old all → 0 < length old → 0 < length all
longer old all p lt = omega (arith, lt, ap length p.1, length-append old p.0)

used-some : (h : History) (changesets : List Changeset) (path : List ℕ) → IsSound h → EachChangeset IsNextChangeset h changesets → uses changesets path ≡ true → 0 < length ((history_from h changesets).filelog path)
used-some h [] path s each e = never (sym e)
used-some h (c ∷ changesets) path s each e = by (bool (among path (tree_paths c.tree))) (used-some (with_changeset h c) changesets path (sound-more h c s each.0.ordered) each.1)
  where
    by : (among path (tree_paths c.tree) ≡ true) ⊎ (among path (tree_paths c.tree) ≡ false) → (uses changesets path ≡ true → 0 < length ((history_from (with_changeset h c) changesets).filelog path)) → 0 < length ((history_from (with_changeset h c) changesets).filelog path)
    by (inl g) rec = longer (filelog_with h c path) ((history_from (with_changeset h c) changesets).filelog path) ((history_from-extends (with_changeset h c) changesets).filelogs path) (among-zip h c c.tree (rows_of h c) path (files-placed h c s each.0) g)
    by (inr g) rec = rec (sym (ap (λ z. z || uses changesets path) g) ∙ e)

-- ---- bytes of indexes and chunks

some-items : (h : Header) (stored : List Stored) → 0 < length stored → 0 < length (index_bytes h (items stored))
some-items h [] lt = absurd (omega (arith, lt))
some-items h (s ∷ stored) lt = omega arith

some-new : (inline : Bool) (offset : ℕ) (all : List Revision) → 0 < length all → 0 < length (new_entries inline [] (new_items offset [] all))
some-new inline offset [] lt = absurd (omega (arith, lt))
some-new inline offset (x ∷ all) lt = omega arith

some-chunk : (text : List ℕ) → nat_le (length text) most_inline ≡ false → 0 < length (chunk_of text)
some-chunk [] e = never e
some-chunk (b ∷ text) e = by (b == 0)
  where
    by : (z : Bool) → 0 < length (if z then b ∷ text else 117 ∷ b ∷ text)
    by true = omega arith
    by false = omega arith

front-some : (xs ys : List ℕ) → 0 < length xs → 0 < length (xs ++ ys)
front-some xs ys lt = omega (arith, lt, length-append xs ys)

some-chunks : (offset : ℕ) (all : List Revision) → 0 < length all → begins_inline all ≡ false → 0 < length (new_chunks (new_items offset [] all))
some-chunks offset [] lt e = absurd (omega (arith, lt))
some-chunks offset (x ∷ all) lt e = front-some (chunk_of x.text) _ (some-chunk x.text e)

-- ---- the names

named-standing : (path standing index data_bytes : List ℕ) → 0 < length standing → names_with path standing index data_bytes ≡ []
named-standing path [] index data_bytes lt = absurd (omega (arith, lt))
named-standing path (b ∷ standing) index data_bytes lt = refl

named-new : (path index data_bytes : List ℕ) (inline : Bool) → 0 < length index → (inline ≡ true → data_bytes ≡ []) → (inline ≡ false → 0 < length data_bytes)
    → names_with path [] index data_bytes ≡ listed_name path I ∷ (if inline then [] else listed_name path D ∷ [])
named-new path [] data_bytes inline lt none some = absurd (omega (arith, lt))
named-new path (b ∷ index) [] true lt none some = refl
named-new path (b ∷ index) [] false lt none some = absurd (let z = some refl in omega (arith, z))
named-new path (b ∷ index) (c ∷ data_bytes) true lt none some = absurd (no (none refl))
  where
    no : c ∷ data_bytes ≡ [] → ⊥
    no e = cc
named-new path (b ∷ index) (c ∷ data_bytes) false lt none some = refl

-- the index that holds no revision has no bytes, and one that holds some has
held-none : (inline : Bool) (index data_bytes : List ℕ) → Holds inline index data_bytes [] → index ≡ []
held-none inline index data_bytes held = by held.stored held.these held.index_is
  where
    by : (stored : List Stored) → map (λ (s : Stored). s.revision) stored ≡ [] → index ≡ index_bytes held.header (items stored) → index ≡ []
    by [] e is = is
    by (s ∷ stored) e is = absurd (no e)
      where
        no : s.revision ∷ map (λ (s : Stored). s.revision) stored ≡ [] → ⊥
        no g = cc

held-some : (inline : Bool) (index data_bytes : List ℕ) (x : Revision) (old : List Revision) → Holds inline index data_bytes (x ∷ old) → 0 < length index
held-some inline index data_bytes x old held = by held.stored held.these held.index_is
  where
    by : (stored : List Stored) → map (λ (s : Stored). s.revision) stored ≡ x ∷ old → index ≡ index_bytes held.header (items stored) → 0 < length index
    by [] e is = absurd (no e)
      where
        no : [] ≡ x ∷ old → ⊥
        no g = cc
    by (s ∷ stored) e is = subst (λ (l : List ℕ). 0 < length l) (sym is) (some-items held.header (s ∷ stored) (omega arith))

nothing-sound : IsSound no_history
nothing-sound = record { files = tt; manifests = tt; filelog_count = λ path. omega arith; manifest_count = omega arith }

module _ (t : Tree) (r next : Repo) (f : GrowthFacts t r next) (u : Tree) (rc bk : Bool) (dirstate marks : List ℕ)
    (leaves : CommitLeaves t u rc bk (roots_of next) dirstate marks (growth t r next) (Append changelog_index (new_changelog_entry t r next))) (q : List ℕ) (e : among q (new_paths r next) ≡ true) where
  abbrev old : List Revision
  old = (history r.changesets).filelog q

  abbrev all : List Revision
  all = (history next.changesets).filelog q

  used : uses next.changesets q ≡ true
  used = paths-used t r next f u rc bk dirstate marks leaves q e

  all-some : 0 < length all
  all-some = used-some no_history next.changesets q nothing-sound f.repository.changesets used

  index-is : appended (store_name q I) (growth t r next) ≡ new_entries (form t (history r.changesets).filelog (history next.changesets).filelog q) old (added (form t (history r.changesets).filelog (history next.changesets).filelog q) t (store_name q I) (store_name q D) old all)
  index-is = file-index-grows t r next f u rc bk dirstate marks leaves q used e

  data-is : appended (store_name q D) (growth t r next) ≡ new_data (form t (history r.changesets).filelog (history next.changesets).filelog q) (added (form t (history r.changesets).filelog (history next.changesets).filelog q) t (store_name q I) (store_name q D) old all)
  data-is = file-data-grows t r next f u rc bk dirstate marks leaves q used e

  abbrev index : List ℕ
  index = bytes_at t (store_name q I)

  abbrev chunks : List ℕ
  chunks = bytes_at t (store_name q D)

  abbrev form_behind : List Revision → Bool
  form_behind o = grows_inline index o all

  abbrev items_behind : List Revision → List Item
  items_behind o = new_items (length (chunk_bytes (form_behind o) index chunks)) o (drop (length o) all)

  -- a filelog that is new
  module _ (new : old ≡ []) where
    index-new : appended (store_name q I) (growth t r next) ≡ new_entries (begins_inline all) [] (items_behind [])
    index-new = index-is ∙ ap (λ o. new_entries (form_behind o) o (items_behind o)) new

    data-new : appended (store_name q D) (growth t r next) ≡ new_data (begins_inline all) (items_behind [])
    data-new = data-is ∙ ap (λ o. new_data (form_behind o) (items_behind o)) new

    gets-index : 0 < length (appended (store_name q I) (growth t r next))
    gets-index = subst (λ (l : List ℕ). 0 < length l) (sym index-new) (some-new (begins_inline all) _ all all-some)

    gets-no-data : begins_inline all ≡ true → appended (store_name q D) (growth t r next) ≡ []
    gets-no-data b = data-new ∙ ap (λ x. new_data x (items_behind [])) b

    gets-data : begins_inline all ≡ false → 0 < length (appended (store_name q D) (growth t r next))
    gets-data b = subst (λ (l : List ℕ). 0 < length l) (sym (data-new ∙ ap (λ x. new_data x (items_behind [])) b)) (some-chunks _ all all-some b)

    was-empty : (uses r.changesets q ≡ true) ⊎ (uses r.changesets q ≡ false) → index ≡ []
    was-empty (inl is) = held-none (is_inline index) index chunks (subst (Holds (is_inline index) index chunks) new (f.stands.revlogs.filelogs q is))
    was-empty (inr none) = f.un.free q I e none refl

    named : names_with q index (appended (store_name q I) (growth t r next)) (appended (store_name q D) (growth t r next)) ≡ new_names_of q [] all
    named =
        ap (λ l. names_with q l (appended (store_name q I) (growth t r next)) (appended (store_name q D) (growth t r next))) (was-empty (bool (uses r.changesets q)))
        ∙ named-new q (appended (store_name q I) (growth t r next)) (appended (store_name q D) (growth t r next)) (begins_inline all) gets-index gets-no-data gets-data

  stood : (x : Revision) (xs : List Revision) → old ≡ x ∷ xs → (uses r.changesets q ≡ true) ⊎ (uses r.changesets q ≡ false) → 0 < length index
  stood x xs is (inl used_before) = held-some (is_inline index) index chunks x xs (subst (Holds (is_inline index) index chunks) is (f.stands.revlogs.filelogs q used_before))
  stood x xs is (inr none) = absurd (no (sym is ∙ unused-empty r.changesets q none))
    where
      no : x ∷ xs ≡ [] → ⊥
      no g = cc

  pub names-are : names_with q index (appended (store_name q I) (growth t r next)) (appended (store_name q D) (growth t r next)) ≡ new_names_of q old all
  names-are = by old refl
    where
      by : (o : List Revision) → old ≡ o → names_with q index (appended (store_name q I) (growth t r next)) (appended (store_name q D) (growth t r next)) ≡ new_names_of q old all
      by [] is = named is ∙ ap (λ o. new_names_of q o all) (sym is)
      by (x ∷ xs) is = named-standing q index (appended (store_name q I) (growth t r next)) (appended (store_name q D) (growth t r next)) (stood x xs is (bool (uses r.changesets q))) ∙ ap (λ o. new_names_of q o all) (sym is)

-- ---- records

pub records-names : (t : Tree) (r : Repo) (x : Record) (records : List Record) → Stands t r → IsValid (Import (changes_of (x ∷ records))) → IsImport t r (x ∷ records) → (q : List ℕ) → among q (new_paths r (repo_behind r (x ∷ records))) ≡ true
    → names_with q (bytes_at t (store_name q I)) (appended_by (store_name q I) t r (x ∷ records)) (appended_by (store_name q D) t r (x ∷ records)) ≡ new_names_of q ((history r.changesets).filelog q) ((history (repo_behind r (x ∷ records)).changesets).filelog q)
records-names t r x records s valid is q e =
    (λ i. names_with q (bytes_at t (store_name q I)) (so I i) (so D i))
    ∙ names-are t r next facts _ _ _ _ _ left q e
  where
    next : Repo
    next = repo_behind r (x ∷ records)

    facts : GrowthFacts t r (repo_behind r (x ∷ records))
    facts = import-facts t r (repo_behind r (x ∷ records)) (changes_of (x ∷ records)) is.answer s valid is.accepted is.ready.0

    left : CommitLeaves t (after_all (operations (transaction_of t r (Import (changes_of (x ∷ records))) [] (repo_behind r (x ∷ records)))) t) (roots_change r (repo_behind r (x ∷ records))) (sets_bookmark (changes_of (x ∷ records))) (roots_of (repo_behind r (x ∷ records))) (new_dirstate (repo_behind r (x ∷ records))).text (new_bookmarks (repo_behind r (x ∷ records))).text (growth t r (repo_behind r (x ∷ records))) (Append changelog_index (new_changelog_entry t r (repo_behind r (x ∷ records))))
    left = import-left t r (repo_behind r (x ∷ records)) (changes_of (x ∷ records)) []

    so : (ext : Ext) → appended_by (store_name q ext) t r (x ∷ records) ≡ appended (store_name q ext) (growth t r (repo_behind r (x ∷ records)))
    so ext =
        sym (is.appends (store_name q ext) (inr (q, ext, paths-used t r next facts _ _ _ _ _ left q e, refl)))
        ∙ only-growth t r (repo_behind r (x ∷ records)) (store_name q ext) (store-published t r next facts _ _ _ _ _ left q ext)
