-- Each changeset, its files and their bodies, while writers are at work.
use Rattle.std.proofs.Common.{◌≡◌, ℕ, zero, suc, ◌<◌, ◌≤◌, List, [], ◌∷◌, ◌++◌, Bool, true, false, cond, not, length, map, ◌||◌, Some, None, Option, Result, Ok, Err, refl, sym, ◌∙◌, ap, subst, arith, append-nil, length-append, take, drop}
use Rattle.std.specs.Prelude.{◌==◌, slice_get, nat_lt}
use Rattle.std.specs.List.{AllByRecursion, AllZip, list_all, list_any}
use Rattle.std.proofs.lemmas.Bool.Decides.{nat_tests}
use Rattle.std.proofs.lemmas.List.{length-take, take-append-le}
use Rattle.std.proofs.lemmas.List.Folds.{list_any-append}
use Rattle.std.proofs.lemmas.Option.{slice_get_within}
use Rattle.std.proofs.lemmas.Slice.Zip.{AllZip-long}
use Rattle.hgs_bytes.specs.Bytes.{among, same, IsPrefixOf}
use Rattle.hgs_files.specs.declared.op.Op.{Op}
use Rattle.hgs_files.specs.Tree.{Tree, bytes_at, after_all}
use Rattle.hgs_index.specs.declared.entry.Entry.{Entry}
use Rattle.hgs_index.specs.declared.kinds.Which.TheVariants.{FileText, Tree as TooMany}
use Rattle.hgs_index.specs.ChangeText.{Change, read_change}
use Rattle.hgs_index.specs.Either.{chunk_bytes, chunks_either}
use Rattle.hgs_index.specs.FileText.{unpacked, body_of}
use Rattle.hgs_index.specs.Inline.{chunks_apart, is_inline}
use Rattle.hgs_index.specs.Manifest.{Row, manifest_text, read_manifest}
use Rattle.hgs_index.specs.Revision.{Revision}
use Rattle.hgs_index.specs.Revlog.{BeginsWithRevisions, chunk_text}
use Rattle.hgs_index.specs.Theorems.EitherLemmas.{either-begins}
use Rattle.hgs_index.specs.TrackedPath.{is_tracked}
use Rattle.hgs_manifest.specs.Held.{found_in}
use Rattle.hgs_model.specs.Held.{IsHeld, IsPlacedIn}
use Rattle.hgs_model.specs.History.{changeset_nodes, history, node_at, text_at, uses, parents_in}
use Rattle.hgs_model.specs.Repo.{Changeset, TreeFile, file_text, tree_paths}
use Rattle.hgs_path.specs.declared.check.PathFault.{PathFault}
use Rattle.hgs_path.specs.declared.name.Ext.TheVariants.{I, D}
use Rattle.hgs_path.specs.Check.{checked}
use Rattle.hgs_path.specs.StoreName.{store_name}
use Rattle.hgs_revlog.specs.declared.fault.RevFault.{RevFault}
use Rattle.hgs_revlog.specs.declared.fault.RevFault.TheVariants.{Delta, Flagged, Short}
use Rattle.hgs_revlog.specs.declared.fault.Tail.TheVariants.{Ignore}
use Rattle.hgs_revlog.specs.Held.{AreWithinLimits, chunk_in, read_all}
use Rattle.hgs_revlog.specs.Load.{in_form, loaded, loaded_either, most_text}
use Rattle.hgs_revlog.specs.Log.{Log}
use Rattle.hgs_revlog.specs.Text.{fitting_text, span_in, text_at as entry_text_at, text_of}
use Rattle.hgs_load.specs.declared.answer.ReadAnswer.{ReadAnswer}
use Rattle.hgs_load.specs.declared.answer.ReadAnswer.TheVariants.{Limit, UnknownPath}
use Rattle.hgs_load.specs.Asks.{Asks, answer, at_rest, then_asks, MayAnswer}
use Rattle.hgs_reader.specs.Contents.{most_files, most_file_text, rows_answer, rows_asks, tree_asks, files_text, files_asks, tracked_node, file_node, body_answer, body_asks, cat_asks}
use Rattle.hgs_reader.specs.Find.{text_asks}
use Rattle.hgs_reader.specs.Line.{change_asks, change_at, line_asks, line_at, line_text}
use Rattle.hgs_load.specs.View.{View}
use Rattle.hgs_stands.specs.Places.{changelog_index, changelog_data, manifest_index, manifest_data}
use Rattle.hgs_shown.specs.Limits.{IsSmallTree}
use Rattle.hgs_stands.specs.Theorems.FormLemmas.{apart-held}
use Rattle.hgs_shown.specs.Found.{HasPathOf, IsFound}
use Rattle.hgs_shown.specs.Shown.{chunks_of_changelog, index_of_changelog}
use Rattle.hgs_views.specs.Answered.{OnlyAnswers, IsFileAnswered, IsAnswered}
use Rattle.hgs_views.specs.Course.{Course, IsBetween, IsCourse, OpensAlong, ReadsAlong, tree_after}
use Rattle.hgs_views.specs.Moments.{StaysAt}
use Rattle.hgs_views.specs.Seen.{Numbers, IsViewAt}
use Rattle.hgs_views.proofs.Basics.{and-left, and-right, prefix-refl, prefix-trans, may-front, slice_get-front}
use Rattle.hgs_views.proofs.FormLemmas.{out-of-form, plain-chunks}
use Rattle.hgs_views.proofs.LoadLemmas.{below, chunks-stay, form-at}
use Rattle.hgs_views.proofs.MomentLemmas.{between-later}
use Rattle.hgs_views.proofs.Below.{ContentLaws}
use Rattle.hgs_views.proofs.OnlyLemmas.{Only, later-end, only-changeset, only-given, only-then}

-- ---- chunks

-- a chunk of which a text is read is whole
whole-chunk : (entries : List Entry) (rev : ℕ) (chunk : List ℕ) (e : Entry) (text : List ℕ) → slice_get entries rev ≡ Some e → text_of entries rev chunk ≡ Ok text → e.stored ≤ length chunk
whole-chunk entries rev chunk e text at read = by (not (e.flags == 0)) (not (e.base == rev)) (nat_lt (length chunk) e.stored) refl (sym (ap (entry_text_at entries rev chunk) at) ∙ read)
  where
    enough : (n m : ℕ) → nat_lt n m ≡ false → m ≤ n
    enough n m h = grind (arith, nat_tests, h)

    by : (a b c : Bool) → nat_lt (length chunk) e.stored ≡ c → cond a (Err (Flagged rev)) (cond b (Err (Delta rev)) (cond c (Err (Short rev)) (fitting_text entries rev e (chunk_text chunk)))) ≡ Ok text → e.stored ≤ length chunk
    by true b c s r = cc
    by false true c s r = cc
    by false false true s r = cc
    by false false false s r = enough (length chunk) e.stored s

-- what stands whole in a front stands so in all
span-longer : (front more : List ℕ) (from n : ℕ) → n ≤ length (take n (drop from front)) → take n (drop from (front ++ more)) ≡ take n (drop from front)
span-longer front more zero n le = take-append-le n front more (let l = length-take n front in omega (arith, l, le))
span-longer [] more (suc from) zero le = refl
span-longer [] more (suc from) (suc n) le = absurd (omega (arith, le))
span-longer (b ∷ front) more (suc from) n le = span-longer front more from n le

-- ---- fronts

all-front : {A : Type 0} (P : A → Type 0) (xs ys : List A) → AllByRecursion P (xs ++ ys) → AllByRecursion P xs
all-front P [] ys all = tt
all-front P (x ∷ xs) ys all = (all.0, all-front P xs ys all.1)

within-front : (front all : List Revision) (chunks : List ℕ) → IsPrefixOf front all → AreWithinLimits all chunks → AreWithinLimits front chunks
within-front front all chunks p w = record {
  few = (let few = w.few in let l = ap length p.1 in let m = length-append front p.0 in omega (arith, few, l, m));
  texts = all-front (λ (r : Revision). length r.text ≤ most_text) front p.0 (subst (AllByRecursion (λ (r : Revision). length r.text ≤ most_text)) p.1 w.texts);
  data_end = w.data_end;
}

uses-front : (xs ys : List Changeset) (path : List ℕ) → IsPrefixOf xs ys → uses xs path ≡ true → uses ys path ≡ true
uses-front xs ys path p e =
    ap (λ l. uses l path) p.1 ∙ list_any-append (λ c. among path (tree_paths c.tree)) xs p.0 ∙ ap (λ b. b || list_any (λ c. among path (tree_paths c.tree)) p.0) e

get-map : {A B : Type 0} (f : A → B) (xs : List A) (rev : ℕ) (z : A) → slice_get xs rev ≡ Some z → slice_get (map f xs) rev ≡ Some (f z)
get-map f [] rev z e = cc
get-map f (y ∷ xs) zero z e = cc
get-map f (y ∷ xs) (suc rev) z e = get-map f xs rev z e

not_above : (most n : ℕ) → n ≤ most → nat_lt most n ≡ false
not_above most n h = grind (arith, nat_tests, h)

log-same : (a b : Log) (r : Result Log RevFault) → r ≡ Ok a → r ≡ Ok b → a ≡ b
log-same a b r p q = cc

some-is : {A : Type 0} (a b : A) → (let o : Option A = Some a in o) ≡ Some b → a ≡ b
some-is a b e = cc

placed-paths : (logs : List ℕ → List Revision) (tree : List TreeFile) (rows : List Row) → AllZip (IsPlacedIn logs) tree rows → AllZip HasPathOf tree rows
placed-paths logs [] [] is = tt
placed-paths logs [] (row ∷ rows) is = absurd is
placed-paths logs (f ∷ tree) [] is = absurd is
placed-paths logs (f ∷ tree) (row ∷ rows) is = (ap (λ (x : Row). x.path) is.0.row_is, placed-paths logs tree rows is.1)

module _ (x : Course) (first last : List Op) (is : IsCourse x first last) (opens : OpensAlong x first last) (reads : ReadsAlong x first last) (law : ContentLaws) where
  -- from this list on the files hold these changesets
  pub record IsReached (c : ℕ) (from : List Op) : Type 0 where
    pub at : IsBetween first last from
    pub top : c ≤ x.published from

  pub reached-later : (c : ℕ) (from now : List Op) → IsReached c from → IsBetween from last now → IsReached c now
  reached-later c from now r there = record {
    at = between-later first last from now r.at there;
    top = (let up = (is.rises from now r.at there).published in let top = r.top in omega (arith, up, top));
  }

  low : (c : ℕ) (from : List Op) → IsReached c from → c ≤ x.published last
  low c from r = let b = below x first last is from r.at in let top = r.top in omega (arith, b, top)

  goes : (c : ℕ) (from : List Op) → IsReached c from → IsPrefixOf (x.repo c).changesets (x.repo (x.published from)).changesets
  goes c from r = is.goes_on c (x.published from) r.top (below x first last is from r.at)

  manifest-stays : (c : ℕ) (from : List Op) → IsReached c from → StaysAt x.start from last (x.store c) manifest_index manifest_data (history (x.repo c).changesets).manifest
  manifest-stays c from r = record {
    held = (is.holds c (low c from r)).manifest;
    index_stays = λ now there. let n = reached-later c from now r there in (is.stays now c n.at n.top).manifest;
    chunks_stay = λ now there. let n = reached-later c from now r there in (is.stays now c n.at n.top).manifest_chunks;
    within = λ now there. let n = reached-later c from now r there in
        within-front (history (x.repo c).changesets).manifest (history (x.repo (x.published now)).changesets).manifest (chunks_either (bytes_at (after_all now x.start) manifest_index) (bytes_at (after_all now x.start) manifest_data))
        (law.manifest (x.repo c).changesets (x.repo (x.published now)).changesets (goes c now n)) (reads now n.at).manifest;
  }

  filelog-stays : (c : ℕ) (from : List Op) (path : List ℕ) → IsReached c from → uses (x.repo c).changesets path ≡ true → StaysAt x.start from last (x.store c) (store_name path I) (store_name path D) ((history (x.repo c).changesets).filelog path)
  filelog-stays c from path r used = record {
    held = (is.holds c (low c from r)).filelogs path used;
    index_stays = λ now there. let n = reached-later c from now r there in (is.stays now c n.at n.top).filelogs path I used;
    chunks_stay = λ now there. let n = reached-later c from now r there in (is.stays now c n.at n.top).filelogs path D used;
    within = λ now there. let n = reached-later c from now r there in
        within-front ((history (x.repo c).changesets).filelog path) ((history (x.repo (x.published now)).changesets).filelog path) (chunks_either (bytes_at (after_all now x.start) (store_name path I)) (bytes_at (after_all now x.start) (store_name path D)))
        (law.filelogs (x.repo c).changesets (x.repo (x.published now)).changesets path (goes c now n))
        ((reads now n.at).filelogs path (uses-front (x.repo c).changesets (x.repo (x.published now)).changesets path (goes c now n) used));
  }

  text-only : (now : List Op) (store : Tree) (index chunks : List ℕ) (revisions : List Revision) (rev : ℕ) (node text : List ℕ) → same index chunks ≡ false → rev < length revisions → node_at revisions rev ≡ node → text_at revisions rev ≡ text → StaysAt x.start now last store index chunks revisions
      → Only x.start now last (text_asks index chunks node) (Ok text)
  text-only now store index chunks revisions rev node text apart lt at is stays y m = law.texts x.start store now last index chunks revisions rev node text y stays apart lt at is m

  -- the texts of the changelog are read from chunks that begin with those of the files of a number
  texts-in : (c : ℕ) (now : List Op) (log : Log) (data_bytes : List ℕ) → IsReached c now → in_form log.inline (loaded Ignore (index_of_changelog (x.store c))) ≡ Ok log → IsPrefixOf (chunks_of_changelog (x.store c)) data_bytes → length data_bytes ≤ length (chunks_of_changelog (tree_after x now))
      → read_all log.entries data_bytes ≡ Ok (history (x.repo c).changesets).changelog
  texts-in c now log data_bytes n loads begun few =
      let store = index_of_changelog (x.store c) in
      let chunks = chunks_of_changelog (x.store c) in
      let revisions = (history (x.repo c).changesets).changelog in
      let held_there = apart-held (bytes_at (x.store c) changelog_index) (bytes_at (x.store c) changelog_data) revisions (is.holds c (low c now n)).changelog in
      let size = law.size store chunks revisions held_there in
      let all = within-front revisions (history (x.repo (x.published now)).changesets).changelog (chunks_of_changelog (tree_after x now)) (law.changelog (x.repo c).changesets (x.repo (x.published now)).changesets (goes c now n)) (opens now n.at).changelog in
      let limits : AreWithinLimits revisions data_bytes = record { few = all.few; texts = all.texts; data_end = (let room = all.data_end in omega (arith, room, few)) } in
      let begins : BeginsWithRevisions store data_bytes revisions = record { index_front = store; data_front = chunks; held = held_there; index_begins = ([], sym (append-nil store)); data_begins = begun } in
      let h = law.loads store data_bytes revisions begins (omega (arith, size)) limits in
      let o = out-of-form log.inline (loaded Ignore store) log loads in
      ap (λ l. read_all l data_bytes) (sym o.2 ∙ ap (λ (l : Log). l.entries) (log-same o.0 h.0 (loaded Ignore store) o.1 h.1)) ∙ h.2

  -- so they are from each tree, and from the files of the number
  texts-at : (c : ℕ) (now : List Op) (log : Log) → IsReached c now → in_form log.inline (loaded Ignore (index_of_changelog (x.store c))) ≡ Ok log → read_all log.entries (chunks_of_changelog (tree_after x now)) ≡ Ok (history (x.repo c).changesets).changelog
  texts-at c now log n loads = texts-in c now log (chunks_of_changelog (tree_after x now)) n loads (chunks-stay x first last is now c n.at n.top) (omega arith)

  store-texts : (c : ℕ) (now : List Op) (log : Log) → IsReached c now → in_form log.inline (loaded Ignore (index_of_changelog (x.store c))) ≡ Ok log → read_all log.entries (chunks_of_changelog (x.store c)) ≡ Ok (history (x.repo c).changesets).changelog
  store-texts c now log n loads =
      let kept = chunks-stay x first last is now c n.at n.top in
      let longer = ap length kept.1 in
      let both = length-append (chunks_of_changelog (x.store c)) kept.0 in
      texts-in c now log (chunks_of_changelog (x.store c)) n loads (prefix-refl (chunks_of_changelog (x.store c))) (omega (arith, longer, both))

  module _ (c : ℕ) (view : View) (rev : ℕ) (d : Changeset) (loads : in_form view.changelog.inline (loaded Ignore (index_of_changelog (x.store c))) ≡ Ok view.changelog) (form : 0 < length view.changelog.entries → view.changelog.inline ≡ is_inline (bytes_at (x.store c) changelog_index))
      (found : slice_get (x.repo c).changesets rev ≡ Some d) (h : IsHeld (history (take rev (x.repo c).changesets)) (history (x.repo c).changesets) rev d) where
    entry-at : (now : List Op) → IsReached c now → (e : Entry) × (slice_get view.changelog.entries rev ≡ Some e) × (text_of view.changelog.entries rev (chunk_in (chunks_of_changelog (tree_after x now)) e) ≡ Ok h.revision.text)
    entry-at now n =
        let data_bytes = chunks_of_changelog (tree_after x now) in
        law.entry view.changelog.entries data_bytes (history (x.repo c).changesets).changelog rev h.revision (texts-at c now view.changelog n loads) h.there

    change-read : read_change h.revision.text ≡ Ok h.change
    change-read = ap read_change h.text_is ∙ law.change_text h.change h.in_form

    -- the form of the view is that of the files of its number, and of each tree
    form-store : (now : List Op) → IsReached c now → view.changelog.inline ≡ is_inline (bytes_at (x.store c) changelog_index)
    form-store now n = let e = entry-at now n in form (let within = slice_get_within view.changelog.entries rev e.0 e.1 in omega (arith, within))

    form-now : (now : List Op) → IsReached c now → is_inline (bytes_at (tree_after x now) changelog_index) ≡ is_inline (bytes_at (x.store c) changelog_index)
    form-now now n = form-at x first last is now c n.at n.top (let within = slice_get_within (history (x.repo c).changesets).changelog rev h.revision h.there in omega (arith, within))

    -- in an inline index the chunk stands where it stands in the files of the number
    placed-at : (now : List Op) → IsReached c now → view.changelog.inline ≡ true → at_rest (tree_after x now) (change_asks view rev) ≡ Ok h.change
    placed-at now n inline =
        let log = view.changelog in
        let index = bytes_at (x.store c) changelog_index in
        let says : is_inline index ≡ true = sym (form-store now n) ∙ inline in
        let e = law.entry log.entries (chunks_of_changelog (x.store c)) (history (x.repo c).changesets).changelog rev h.revision (store-texts c now log n loads) h.there in
        let span = span_in true rev e.0 in
        let either : loaded_either Ignore index ≡ Ok log = ap (λ b. in_form b (loaded Ignore (index_of_changelog (x.store c)))) (sym (form-store now n)) ∙ loads in
        let chunks : chunk_in (chunks_apart index) e.0 ≡ chunk_in (chunks_of_changelog (x.store c)) e.0 = ap (λ b. chunk_in (chunk_bytes b index (bytes_at (x.store c) changelog_data)) e.0) (sym says) in
        let place = law.places Ignore index log rev e.0 either inline e.1 ∙ chunks in
        let whole = whole-chunk log.entries rev (chunk_in (chunks_of_changelog (x.store c)) e.0) e.0 h.revision.text e.1 e.2 in
        let kept = (is.stays now c n.at n.top).changelog in
        let span_now : take e.0.stored (drop span.from (bytes_at (tree_after x now) changelog_index)) ≡ chunk_in (chunks_of_changelog (x.store c)) e.0 =
        ap (λ l. take e.0.stored (drop span.from l)) kept.1 ∙ span-longer index kept.0 span.from e.0.stored (subst (λ l. e.0.stored ≤ length l) (sym place) whole) ∙ place in
        law.placed (tree_after x now) view rev e.0 h.revision.text h.change inline e.1 (ap (text_of log.entries rev) span_now ∙ e.2) change-read

    change-at : (now : List Op) → IsReached c now → at_rest (tree_after x now) (change_asks view rev) ≡ Ok h.change
    change-at now n = by view.changelog.inline refl
      where
        by : (b : Bool) → view.changelog.inline ≡ b → at_rest (tree_after x now) (change_asks view rev) ≡ Ok h.change
        by true inline = placed-at now n inline
        by false separate =
            let t = tree_after x now in
            let e = entry-at now n in
            let plain = form-now now n ∙ sym (form-store now n) ∙ separate in
            let chunks = plain-chunks (bytes_at t changelog_index) (bytes_at t changelog_data) plain in
            law.change t view rev e.0 h.revision.text h.change separate e.1 (ap (λ l. text_of view.changelog.entries rev (chunk_in l e.0)) (sym chunks) ∙ e.2) change-read

    pub change-only : (from : List Op) → IsReached c from → Only x.start from last (change_asks view rev) (Ok h.change)
    change-only from r = only-changeset x.start view.changelog.inline rev (slice_get view.changelog.entries rev) (change_at view rev) (Ok h.change) from last (λ now there. change-at now (reached-later c from now r there))

    pub line-only : (entry : Entry) → slice_get view.changelog.entries rev ≡ Some entry → (from : List Op) → IsReached c from → Only x.start from last (line_asks view rev) (Ok (line_text rev entry h.change))
    line-only entry at from r = only-changeset x.start view.changelog.inline rev (slice_get view.changelog.entries rev) (line_at view rev) (Ok (line_text rev entry h.change)) from last
        (λ now there. law.line (tree_after x now) view rev entry h.change at (change-at now (reached-later c from now r there)))

    small : (from : List Op) → IsReached c from → IsSmallTree d.tree
    small from r =
        let all = (x.repo (x.published from)).changesets in
        law.small all rev d (reads from r.at).trees (slice_get-front (x.repo c).changesets all (goes c from r) rev d found)

    pub tree-only : (from : List Op) → IsReached c from → Only x.start from last (tree_asks view rev) (Ok h.rows)
    tree-only from r =
        only-then x.start (change_asks view rev) (λ (c : Change). rows_asks c.manifest) h.change (Ok h.rows) from last (change-only from r) (λ now there. rows-only now (reached-later c from now r there))
      where
        texts : Asks (Result (List ℕ) ReadAnswer)
        texts = text_asks manifest_index manifest_data h.change.manifest

        few : length h.rows ≤ most_files
        few = let count = AllZip-long (IsPlacedIn (history (x.repo c).changesets).filelog) d.tree h.rows h.files in let most = (small from r).files in omega (arith, count, most)

        last-step : rows_answer (read_manifest (manifest_text h.rows)) ≡ Ok h.rows
        last-step = ap rows_answer (law.rows_text h.rows h.ascend) ∙ ap (λ b. cond b (Err (Limit TooMany)) (Ok h.rows)) (not_above most_files (length h.rows) few)

        rows-only : (now : List Op) → IsReached c now → Only x.start now last (rows_asks h.change.manifest) (Ok h.rows)
        rows-only now n y m =
            let k = history (x.repo c).changesets in
            let node_is : node_at k.manifest h.manifest_rev ≡ h.change.manifest = sym h.node_is in
            let rows_of : List ℕ → Asks (Result (List Row) ReadAnswer) = λ text. answer (rows_answer (read_manifest text)) in
            let stays = manifest-stays c now n in
            let not_null = law.not_null (x.store c) manifest_index manifest_data k.manifest h.manifest_rev h.change.manifest (either-begins (bytes_at (x.store c) manifest_index) (bytes_at (x.store c) manifest_data) k.manifest stays.held) h.below node_is in
            let m1 = subst (λ b. MayAnswer x.start now (cond b (answer (Ok [])) (then_asks (text_asks manifest_index manifest_data h.change.manifest) rows_of)) last y) not_null m in
            let only_text = text-only now (x.store c) manifest_index manifest_data k.manifest h.manifest_rev h.change.manifest (manifest_text h.rows) refl h.below node_is h.manifest_text_is stays in
            only-then x.start (text_asks manifest_index manifest_data h.change.manifest) rows_of (manifest_text h.rows) (Ok h.rows) now last only_text (λ later there y m. m.1 ∙ last-step) y m1

    pub files-only : (from : List Op) → IsReached c from → Only x.start from last (files_asks view rev) (Ok (files_text h.rows))
    files-only from r = only-then x.start (tree_asks view rev) (λ (rows : List Row). answer (Ok (files_text rows))) h.rows (Ok (files_text h.rows)) from last (tree-only from r) (λ now there. only-given x.start now last (Ok (files_text h.rows)))

    pub body-only : (f : TreeFile) (row : Row) → uses (x.repo c).changesets f.path ≡ true → is_tracked f.path ≡ true → unpacked (file_text f) ≡ (f.prefix, f.body) → length f.body ≤ most_file_text → IsFound h.rows row → IsPlacedIn (history (x.repo c).changesets).filelog f row
        → (from : List Op) → IsReached c from → Only x.start from last (cat_asks view rev f.path) (Ok f.body)
    body-only f row used tracked unpacks few at p from r =
        only-then x.start (tree_asks view rev) (λ (rows : List Row). then_asks (answer (file_node f.path rows)) (λ node. body_asks f.path node)) h.rows (Ok f.body) from last (tree-only from r) (λ now there. one now (reached-later c from now r there))
      where
        path_is : row.path ≡ f.path
        path_is = ap (λ (z : Row). z.path) p.row_is

        node_is : file_node f.path h.rows ≡ Ok row.node
        node_is = ap (λ o. tracked_node (checked f.path) o) (ap (λ z. found_in z h.rows) (sym path_is) ∙ at) ∙ ap (λ q. tracked_node q (Some (row.node, row.flag))) (law.pass f.path tracked)

        body : body_of (file_text f) ≡ f.body
        body = ap (λ z. z.1) unpacks

        last-step : body_answer (file_text f) ≡ Ok f.body
        last-step =
            ap (λ b. cond b (Err (Limit FileText)) (Ok (body_of (file_text f)))) (not_above most_file_text (length (body_of (file_text f))) (subst (λ z. length z ≤ most_file_text) (sym body) few))
            ∙ ap (λ z. let a : Result (List ℕ) ReadAnswer = Ok z in a) body

        one : (now : List Op) → IsReached c now → Only x.start now last (then_asks (answer (file_node f.path h.rows)) (λ node. body_asks f.path node)) (Ok f.body)
        one now n y m =
            let m1 = subst (λ (q : Result (List ℕ) ReadAnswer). MayAnswer x.start now (then_asks (answer q) (λ node. body_asks f.path node)) last y) node_is m in
            let only_text = text-only now (x.store c) (store_name f.path I) (store_name f.path D) ((history (x.repo c).changesets).filelog f.path) p.rev row.node (file_text f) (law.kinds f.path f.path) p.below (sym (ap (λ (z : Row). z.node) p.row_is)) p.text (filelog-stays c now f.path n used) in
            only-then x.start (text_asks (store_name f.path I) (store_name f.path D) row.node) (λ text. answer (body_answer text)) (file_text f) (Ok f.body) now last only_text (λ later there y m. m.1 ∙ last-step) y m1

    pub unknown-only : (path : List ℕ) → found_in path h.rows ≡ None → (from : List Op) → IsReached c from → Only x.start from last (cat_asks view rev path) (Err UnknownPath)
    unknown-only path none from r =
        only-then x.start (tree_asks view rev) (λ (rows : List Row). then_asks (answer (file_node path rows)) (λ node. body_asks path node)) h.rows (Err UnknownPath) from last (tree-only from r) (λ now there. one now)
      where
        refused : (q : Result Unit PathFault) → tracked_node q None ≡ Err UnknownPath
        refused (Ok u) = refl
        refused (Err f) = refl

        one : (now : List Op) → Only x.start now last (then_asks (answer (file_node path h.rows)) (λ node. body_asks path node)) (Err UnknownPath)
        one now y m =
            let is_unknown : file_node path h.rows ≡ Err UnknownPath = ap (λ o. tracked_node (checked path) o) none ∙ refused (checked path) in
            (subst (λ (q : Result (List ℕ) ReadAnswer). MayAnswer x.start now (then_asks (answer q) (λ node. body_asks path node)) last y) is_unknown m).1

    -- ---- all of one changeset, after a list that has it

    module _ (seen : List Op) (r : IsReached c seen) where
      only-answers : {A : Type 0} (q : Asks A) (z : A) → ((from : List Op) → IsReached c from → Only x.start from last q z) → OnlyAnswers x seen last q z
      only-answers q z each from to y p on m =
          each from (reached-later c seen from r (record { begins = p; ends = prefix-trans from to last (may-front q x.start from to y m) on })) y (later-end x.start q from to last y on m)

      files-answered : (tree : List TreeFile) (rows : List Row) → AllByRecursion (λ (f : TreeFile). uses (x.repo c).changesets f.path ≡ true) tree → list_all is_tracked (tree_paths tree) ≡ true → AllByRecursion (λ (f : TreeFile). unpacked (file_text f) ≡ (f.prefix, f.body)) tree
          → AllByRecursion (λ (f : TreeFile). length f.body ≤ most_file_text) tree → AllByRecursion (IsFound h.rows) rows → AllZip (IsPlacedIn (history (x.repo c).changesets).filelog) tree rows → AllZip (IsFileAnswered x seen last view (x.repo c).changesets rev) tree rows
      files-answered [] [] used tracked unpacks few at p = tt
      files-answered [] (row ∷ rows) used tracked unpacks few at p = absurd p
      files-answered (f ∷ tree) [] used tracked unpacks few at p = absurd p
      files-answered (f ∷ tree) (row ∷ rows) used tracked unpacks few at p = (
        record {
          path = ap (λ (z : Row). z.path) p.0.row_is;
          flag = ap (λ (z : Row). z.flag) p.0.row_is;
          placed = p.0;
          body = only-answers (cat_asks view rev f.path) (Ok f.body) (body-only f row used.0 (and-left (is_tracked f.path) (list_all is_tracked (tree_paths tree)) tracked) unpacks.0 few.0 at.0 p.0);
        },
        files-answered tree rows used.1 (and-right (is_tracked f.path) (list_all is_tracked (tree_paths tree)) tracked) unpacks.1 few.1 at.1 p.1,
      )

      pub answered-of : (v : Numbers) → v.read ≡ c → IsViewAt x v view → IsAnswered x seen last view (x.repo c).changesets rev d
      answered-of v same_number at_view =
          let e = entry-at seen r in
          let k = history (x.repo c).changesets in
          let repo_is = is.repository c (low c seen r) in
          record {
            change = h.change;
            tells = h.tells;
            text = only-answers (change_asks view rev) (Ok h.change) change-only;
            entry = e.0;
            there = e.1;
            node = named e.0 e.1;
            parents = parents e.0 e.1;
            line = only-answers (line_asks view rev) (Ok (line_text rev e.0 h.change)) (line-only e.0 e.1);
            rows = h.rows;
            rows_are = h.rows_are;
            tree = only-answers (tree_asks view rev) (Ok h.rows) tree-only;
            lines = only-answers (files_asks view rev) (Ok (files_text h.rows)) files-only;
            files = files-answered d.tree h.rows (law.used (x.repo c).changesets rev d found) (law.tracked (x.repo c).changesets rev d repo_is.changesets found) h.unpacks (small seen r).bodies (law.rows [] h.rows h.ascend) h.files;
            others = λ path none. only-answers (cat_asks view rev path) (Err UnknownPath) (unknown-only path (law.others path d.tree h.rows (placed-paths k.filelog d.tree h.rows h.files) none));
          }
        where
          named : (e : Entry) → slice_get view.changelog.entries rev ≡ Some e → slice_get (changeset_nodes (x.repo c).changesets) rev ≡ Some e.node.0
          named e at =
              let all = law.nodes (index_of_changelog (x.store v.read)) (chunks_of_changelog (x.store v.read)) view.changelog.entries (history (x.repo v.read).changesets).changelog at_view.entries in
              ap (λ n. slice_get (changeset_nodes (x.repo n).changesets) rev) (sym same_number) ∙ ap (λ l. slice_get l rev) (sym all) ∙ get-map (λ (z : Entry). z.node.0) view.changelog.entries rev e at

          parents : (e : Entry) → slice_get view.changelog.entries rev ≡ Some e → (e.p1, e.p2) ≡ d.parents
          parents e at =
              let lists = law.parents (index_of_changelog (x.store v.read)) (chunks_of_changelog (x.store v.read)) view.changelog.entries (history (x.repo v.read).changesets).changelog at_view.entries in
              let lists_c = lists ∙ ap (λ n. parents_in (history (x.repo n).changesets).changelog) same_number in
              some-is (e.p1, e.p2) h.revision.parents
              (sym (get-map (λ (z : Entry). (z.p1, z.p2)) view.changelog.entries rev e at)
              ∙ ap (λ l. slice_get l rev) lists_c
              ∙ get-map (λ (z : Revision). z.parents) (history (x.repo c).changesets).changelog rev h.revision h.there)
              ∙ h.parents_are

  -- of a view and a list that is not below it
  pub contents-along : (v : Numbers) (view : View) (seen : List Op) (rev : ℕ) (d : Changeset) → IsViewAt x v view → IsBetween first last seen → v.read ≤ x.published seen → slice_get (x.repo v.read).changesets rev ≡ Some d → IsAnswered x seen last view (x.repo v.read).changesets rev d
  contents-along v view seen rev d at_view at top found =
      let r : IsReached v.read seen = record { at = at; top = top } in
      answered-of v.read view rev d at_view.loads at_view.form found (law.held (x.repo v.read).changesets (is.repository v.read (low v.read seen r)).changesets rev d found) seen r v refl at_view
