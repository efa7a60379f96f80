-- Each changeset, its files and their bodies.
use Rattle.std.proofs.Common.{◌≡◌, ℕ, zero, suc, ◌≤◌, List, [], ◌∷◌, true, false, cond, length, take, Some, None, Result, Ok, Err, refl, sym, ◌∙◌, ap, subst, inl, inr, arith, Bool, ◌||◌, append-nil}
use Rattle.std.specs.Prelude.{slice_get, is_ok}
use Rattle.std.specs.Cmp.Lexicographic.{nat_list_cmp_total}
use Rattle.std.specs.List.{AllByRecursion, AllZip, list_all}
use Rattle.std.specs.Ordering.{is_lt}
use Rattle.std.proofs.lemmas.Cmp.{tied_itself}
use Rattle.std.proofs.lemmas.Slice.Zip.{AllZip-long}
use Rattle.hgs_bytes.specs.Bytes.{same, among, is_below, IsPrefixOf}
use Rattle.hgs_files.specs.Tree.{Tree, bytes_at}
use Rattle.hgs_index.specs.ChangeText.{Change, read_change}
use Rattle.hgs_index.specs.Either.{chunk_bytes, chunks_either}
use Rattle.hgs_index.specs.FileText.{unpacked, body_of}
use Rattle.hgs_index.specs.Inline.{chunks_apart, is_inline}
use Rattle.hgs_index.specs.Manifest.{Row, AscendFrom, manifest_text}
use Rattle.hgs_index.specs.TrackedPath.{is_tracked}
use Rattle.hgs_manifest.specs.Held.{found_in}
use Rattle.hgs_model.specs.History.{History, EachChangeset, history, no_history, node_at, rows_of, uses, with_changeset}
use Rattle.hgs_model.specs.IsRepo.{IsNextChangeset, IsRepo}
use Rattle.hgs_model.specs.Held.{IsHeld, IsPlacedIn}
use Rattle.hgs_model.specs.Repo.{Repo, Changeset, TreeFile, file_text, tree_paths}
use Rattle.hgs_path.specs.declared.check.PathFault.{PathFault}
use Rattle.hgs_path.specs.declared.name.Ext.TheVariants.{I, D}
use Rattle.hgs_path.specs.Check.{checked}
use Rattle.hgs_path.specs.StoreName.{store_name}
use Rattle.hgs_revlog.specs.declared.fault.Tail.TheVariants.{Ignore}
use Rattle.hgs_revlog.specs.Held.{AreWithinLimits, read_all}
use Rattle.hgs_revlog.specs.Text.{text_of}
use Rattle.hgs_load.specs.declared.answer.ReadAnswer.{ReadAnswer}
use Rattle.hgs_load.specs.Asks.{at_rest}
use Rattle.hgs_reader.specs.Contents.{most_file_text, tree_asks, files_asks, files_text}
use Rattle.hgs_reader.specs.Line.{change_asks}
use Rattle.hgs_load.specs.Open.{open_asks}
use Rattle.hgs_load.specs.View.{View}
use Rattle.hgs_stands.specs.Places.{changelog_data, changelog_index, manifest_index, manifest_data}
use Rattle.hgs_stands.specs.Stands.{Stands}
use Rattle.hgs_stands.specs.Shows.{BeginsAt, BeginsChangesets, Shows}
use Rattle.hgs_index.specs.Revision.{Revision}
use Rattle.hgs_shown.specs.Limits.{OpensWithin, ReadsWithin, IsSmallTree}
use Rattle.hgs_shown.specs.Found.{HasPathOf, IsFound}
use Rattle.hgs_shown.specs.Shown.{IsFileShown, IsShown}
use Rattle.hgs_shown.proofs.OpenLemmas.{Loads, opened, ok-is}
use Rattle.hgs_shown.proofs.TextLemmas.{has-text, named}
use Rattle.hgs_shown.proofs.Basics.{all-map, and-left, and-right, below-trans, bool, never, same-eq, same-refl}
use Rattle.hgs_shown.specs.Below.{Below}

-- ---- rows are found by their paths

below-other : (x y : List ℕ) → is_below x y ≡ true → same x y ≡ false
below-other x y a = elim (bool (same x y)) [
  | inl e ↦ never (sym (sym (ap is_lt (tied_itself nat_list_cmp_total x)) ∙ (ap (is_below x) (same-eq x y e) ∙ a)))
  | inr e ↦ e
]

all-below : (last : List ℕ) (rows : List Row) → AscendFrom last rows → AllByRecursion (λ (r : Row). is_below last r.path ≡ true) rows
all-below last [] a = tt
all-below last (r ∷ rows) a = (a.1, all-map (λ (q : Row). is_below r.path q.path ≡ true) (λ (q : Row). is_below last q.path ≡ true) rows (λ q b. below-trans last r.path q.path a.1 b) (all-below r.path rows a.2))

pub found-rows : (last : List ℕ) (rows : List Row) → AscendFrom last rows → AllByRecursion (IsFound rows) rows
found-rows last [] a = tt
found-rows last (r ∷ rows) a = (ap (λ b. cond b (Some (r.node, r.flag)) (found_in r.path rows)) (same-refl r.path), more rows (all-below r.path rows a.2) (found-rows r.path rows a.2))
  where
    more : (back : List Row) → AllByRecursion (λ (q : Row). is_below r.path q.path ≡ true) back → AllByRecursion (IsFound rows) back → AllByRecursion (IsFound (r ∷ rows)) back
    more [] b f = tt
    more (q ∷ back) b f = (ap (λ x. cond x (Some (r.node, r.flag)) (found_in q.path rows)) (below-other r.path q.path b.0) ∙ f.0, more back b.1 f.1)

-- ---- facts of one changeset

pub tracked-at : (h : History) (changesets : List Changeset) (rev : ℕ) (c : Changeset) → EachChangeset IsNextChangeset h changesets → slice_get changesets rev ≡ Some c → list_all is_tracked (tree_paths c.tree) ≡ true
tracked-at h [] rev c each found = cc
tracked-at h (d ∷ changesets) zero c each found =
    let is : d ≡ c = ap (λ o. elim o [ None ↦ d | Some z ↦ z ]) found in
    subst (λ (x : Changeset). list_all is_tracked (tree_paths x.tree) ≡ true) is each.0.paths
tracked-at h (d ∷ changesets) (suc rev) c each found = tracked-at (with_changeset h d) changesets rev c each.1 found

pub small-at : (changesets : List Changeset) (rev : ℕ) (c : Changeset) → AllByRecursion (λ (x : Changeset). IsSmallTree x.tree) changesets → slice_get changesets rev ≡ Some c → IsSmallTree c.tree
small-at [] rev c all found = cc
small-at (d ∷ changesets) zero c all found =
    let is : d ≡ c = ap (λ o. elim o [ None ↦ d | Some z ↦ z ]) found in
    subst (λ (x : Changeset). IsSmallTree x.tree) is all.0
small-at (d ∷ changesets) (suc rev) c all found = small-at changesets rev c all.1 found

pub no-fault : (laws : Below) (path : List ℕ) → is_tracked path ≡ true → checked path ≡ Ok tt
no-fault laws path t = by (checked path) (laws.tested path ∙ t)
  where
    by : (x : Result Unit PathFault) → is_ok x ≡ true → x ≡ Ok tt
    by (Ok u) e = refl
    by (Err f) e = never (sym e)

-- ---- bodies

-- the filelogs of used paths, within the limits
pub record HasLogs (t : Tree) (changesets : List Changeset) : Type 0 where
  pub begin : (path : List ℕ) → uses changesets path ≡ true → BeginsAt t (store_name path I) (store_name path D) ((history changesets).filelog path)
  pub within : (path : List ℕ) → uses changesets path ≡ true → AreWithinLimits ((history changesets).filelog path) (chunks_either (bytes_at t (store_name path I)) (bytes_at t (store_name path D)))

file-shown : (laws : Below) (t : Tree) (changesets : List Changeset) (view : View) (rev : ℕ) (rows : List Row) (f : TreeFile) (row : Row) → HasLogs t changesets → at_rest t (tree_asks view rev) ≡ Ok rows → uses changesets f.path ≡ true → is_tracked f.path ≡ true
    → unpacked (file_text f) ≡ (f.prefix, f.body) → length f.body ≤ most_file_text → IsFound rows row → IsPlacedIn (history changesets).filelog f row → IsFileShown t view rev f row
file-shown laws t changesets view rev rows f row w tree used tracked unpacks few found is =
    let index = store_name f.path I in
    let chunks = store_name f.path D in
    let log = (history changesets).filelog f.path in
    let path : row.path ≡ f.path = ap (λ (x : Row). x.path) is.row_is in
    let body : body_of (file_text f) ≡ f.body = ap (λ x. x.1) unpacks in
    let at : found_in f.path rows ≡ Some (row.node, row.flag) = ap (λ x. found_in x rows) (sym path) ∙ found in
    let text = has-text laws log is.rev row.node (file_text f) is.below (sym (ap (λ (x : Row). x.node) is.row_is)) is.text t index chunks (w.begin f.path used) (w.within f.path used) in
    record {
      path = path;
      flag = ap (λ (x : Row). x.flag) is.row_is;
      body = laws.body t view rev rows f.path row.node (file_text f) row.flag tree (no-fault laws f.path tracked) at text (subst (λ x. length x ≤ most_file_text) (sym body) few)
          ∙ ap (λ x. let a : Result (List ℕ) ReadAnswer = Ok x in a) body;
    }

files-shown : (laws : Below) (t : Tree) (changesets : List Changeset) (view : View) (rev : ℕ) (all : List Row) → HasLogs t changesets → at_rest t (tree_asks view rev) ≡ Ok all → (tree : List TreeFile) (rows : List Row) → AllByRecursion (λ (f : TreeFile). uses changesets f.path ≡ true) tree
    → list_all is_tracked (tree_paths tree) ≡ true → AllByRecursion (λ (f : TreeFile). unpacked (file_text f) ≡ (f.prefix, f.body)) tree → AllByRecursion (λ (f : TreeFile). length f.body ≤ most_file_text) tree → AllByRecursion (IsFound all) rows
    → AllZip (IsPlacedIn (history changesets).filelog) tree rows → AllZip (IsFileShown t view rev) tree rows
files-shown laws t changesets view rev all w asked [] [] used tracked unpacks few found is = tt
files-shown laws t changesets view rev all w asked [] (row ∷ rows) used tracked unpacks few found is = absurd is
files-shown laws t changesets view rev all w asked (f ∷ tree) [] used tracked unpacks few found is = absurd is
files-shown laws t changesets view rev all w asked (f ∷ tree) (row ∷ rows) used tracked unpacks few found is = (
  file-shown laws t changesets view rev all f row w asked used.0 (and-left (is_tracked f.path) (list_all is_tracked (tree_paths tree)) tracked) unpacks.0 few.0 found.0 is.0,
  files-shown laws t changesets view rev all w asked tree rows used.1 (and-right (is_tracked f.path) (list_all is_tracked (tree_paths tree)) tracked) unpacks.1 few.1 found.1 is.1,
)

-- ---- other paths

pub not-found : (path : List ℕ) (tree : List TreeFile) (rows : List Row) → AllZip HasPathOf tree rows → among path (tree_paths tree) ≡ false → found_in path rows ≡ None
not-found path [] [] is none = refl
not-found path [] (row ∷ rows) is none = absurd is
not-found path (f ∷ tree) [] is none = absurd is
not-found path (f ∷ tree) (row ∷ rows) is none = by (same row.path path) refl (not-found path tree rows is.1)
  where
    right : (b : Bool) → (b || among path (tree_paths tree)) ≡ false → among path (tree_paths tree) ≡ false
    right true h = never h
    right false h = h

    here : same row.path path ≡ true → same path f.path ≡ true
    here e = ap (same path) (sym is.0 ∙ same-eq row.path path e) ∙ same-refl path

    by : (b : Bool) → same row.path path ≡ b → (among path (tree_paths tree) ≡ false → found_in path rows ≡ None) → cond b (Some (row.node, row.flag)) (found_in path rows) ≡ None
    by true e rec = never (sym (ap (λ x. x || among path (tree_paths tree)) (here e)) ∙ none)
    by false e rec = rec (right (same path f.path) none)

placed-paths : (logs : List ℕ → List Revision) (tree : List TreeFile) (rows : List Row) → AllZip (IsPlacedIn logs) tree rows → AllZip HasPathOf tree rows
placed-paths logs [] [] is = tt
placed-paths logs [] (row ∷ rows) is = absurd is
placed-paths logs (f ∷ tree) [] is = absurd is
placed-paths logs (f ∷ tree) (row ∷ rows) is = (ap (λ (x : Row). x.path) is.0.row_is, placed-paths logs tree rows is.1)

-- ---- the changeset

-- the text of a changeset is read where its chunk stands in the form of the changelog
change-in-form : (laws : Below) (t : Tree) (view : View) (rev : ℕ) (revisions : List Revision) (r : Revision) (change : Change) → Loads t revisions view.changelog → slice_get revisions rev ≡ Some r → read_change r.text ≡ Ok change → at_rest t (change_asks view rev) ≡ Ok change
change-in-form laws t view rev revisions r change loads there reads = by (is_inline index) loads.form loads.texts
  where
    index : List ℕ
    index = bytes_at t changelog_index

    by : (b : Bool) → view.changelog.inline ≡ b → read_all view.changelog.entries (chunk_bytes b index (bytes_at t changelog_data)) ≡ Ok revisions → at_rest t (change_asks view rev) ≡ Ok change
    by false separate texts = laws.changeset t view rev revisions r change separate texts there reads
    by true inline texts =
        let entries = view.changelog.entries in
        let e = laws.entry entries (chunks_apart index) revisions rev r texts there in
        laws.placed t view rev e.0 r.text change inline e.1 (ap (text_of entries rev) (laws.places Ignore index view.changelog rev e.0 loads.loads inline e.1) ∙ e.2) reads

-- the rows of a changeset's manifest are those that it has behind the changesets before it
abbrev pub committed_rows : Repo → ℕ → Changeset → List Row
committed_rows r rev c = rows_of (history (take rev r.changesets)) c

-- of a view whose changelog is this one's
module _ (laws : Below) (t : Tree) (r : Repo) (view : View) (rev : ℕ) (c : Changeset) (is : IsRepo r) (s : BeginsChangesets t r.changesets) (reads : ReadsWithin t r) (loads : Loads t (history r.changesets).changelog view.changelog) (found : slice_get r.changesets rev ≡ Some c) where
  h : IsHeld (history (take rev r.changesets)) (history r.changesets) rev c
  h = laws.held r.changesets is.changesets rev c found

  text-of : at_rest t (change_asks view rev) ≡ Ok h.change
  text-of = change-in-form laws t view rev (history r.changesets).changelog h.revision h.change loads h.there (ap read_change h.text_is ∙ laws.change h.change h.in_form)

  tree-of : at_rest t (tree_asks view rev) ≡ Ok h.rows
  tree-of =
      let k = history r.changesets in
      let small = small-at r.changesets rev c reads.trees found in
      let count : length h.rows ≡ length c.tree = AllZip-long (IsPlacedIn k.filelog) c.tree h.rows h.files in
      let node_is : node_at k.manifest h.manifest_rev ≡ h.change.manifest = sym h.node_is in
      laws.tree t view rev h.change h.rows text-of (named laws t manifest_index manifest_data k.manifest h.manifest_rev h.change.manifest s.manifest h.below node_is)
      (has-text laws k.manifest h.manifest_rev h.change.manifest (manifest_text h.rows) h.below node_is h.manifest_text_is t manifest_index manifest_data s.manifest reads.manifest) h.ascend
      (let few = small.files in omega (arith, count, few))

  -- the lines of its files
  pub lines-of : at_rest t (files_asks view rev) ≡ Ok (files_text (committed_rows r rev c))
  lines-of = laws.files t view rev h.rows tree-of ∙ ap (λ rows. let a : Result (List ℕ) ReadAnswer = Ok (files_text rows) in a) h.rows_are

  contents-of : IsShown t view rev c
  contents-of =
      let k = history r.changesets in
      let small = small-at r.changesets rev c reads.trees found in
      record {
        change = h.change;
        tells = h.tells;
        text = text-of;
        rows = h.rows;
        tree = tree-of;
        lines = laws.files t view rev h.rows tree-of;
        files = files-shown laws t r.changesets view rev h.rows (record { begin = s.filelogs; within = reads.filelogs }) tree-of c.tree h.rows (laws.used r.changesets rev c found) (tracked-at no_history r.changesets rev c is.changesets found) h.unpacks small.bodies
            (found-rows [] h.rows h.ascend) h.files;
        others = λ path none. laws.unknown t view rev h.rows path tree-of (not-found path c.tree h.rows (placed-paths k.filelog c.tree h.rows h.files) none);
      }

-- what the view that a load answers has loaded
pub loaded-view : (laws : Below) (t : Tree) (marked worked r : Repo) (view : View) → Shows t marked worked r → IsRepo r → IsRepo worked → IsPrefixOf worked.changesets r.changesets → OpensWithin t marked r → at_rest t open_asks ≡ Ok view → Loads t (history r.changesets).changelog view.changelog
loaded-view laws t marked worked r view s is working_is goes_on opens answered =
    let o = opened laws t marked worked r s is working_is goes_on opens in
    subst (λ (v : View). Loads t (history r.changesets).changelog v.changelog) (ok-is o.0 view (sym o.1.answered ∙ answered)) o.1.loads

pub contents-over : (laws : Below) (t : Tree) (marked worked r : Repo) (view : View) (rev : ℕ) (c : Changeset) → Shows t marked worked r → IsRepo r → IsRepo worked → IsPrefixOf worked.changesets r.changesets → OpensWithin t marked r → ReadsWithin t r → at_rest t open_asks ≡ Ok view → slice_get r.changesets rev ≡ Some c → IsShown t view rev c
contents-over laws t marked worked r view rev c s is working_is goes_on opens reads answered found =
    contents-of laws t r view rev c is s.revlogs reads (loaded-view laws t marked worked r view s is working_is goes_on opens answered) found

pub contents : (laws : Below) (t : Tree) (r : Repo) (view : View) (rev : ℕ) (c : Changeset) → Stands t r → OpensWithin t r r → ReadsWithin t r → at_rest t open_asks ≡ Ok view → slice_get r.changesets rev ≡ Some c → IsShown t view rev c
contents laws t r view rev c s opens reads answered found = contents-over laws t r r r view rev c (laws.shows t r s) s.repository s.repository ([], sym (append-nil r.changesets)) opens reads answered found
