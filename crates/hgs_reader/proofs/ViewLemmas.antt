-- What is read of a view's changesets.
use Rattle.std.proofs.Common.{◌≡◌, ℕ, ◌+◌, true, false, List, take, drop, Some, None, Result, Ok, Err, refl, ◌∙◌, ap, arith, sym}
use Rattle.std.specs.Prelude.{slice_get}
use Rattle.std.specs.Option.{option_map}
use Rattle.hgs_files.specs.Tree.{Tree, bytes_at}
use Rattle.hgs_index.specs.declared.entry.Entry.{Entry}
use Rattle.hgs_index.specs.ChangeText.{Change, read_change}
use Rattle.hgs_index.specs.Manifest.{Row}
use Rattle.hgs_index.specs.Revision.{Revision}
use Rattle.hgs_manifest.specs.Held.{found_in}
use Rattle.hgs_path.specs.declared.check.PathFault.{PathFault}
use Rattle.hgs_path.specs.Check.{checked}
use Rattle.hgs_revlog.specs.Held.{chunk_in, read_all}
use Rattle.hgs_revlog.specs.Text.{span_in, text_of}
use Rattle.hgs_load.specs.declared.answer.ReadAnswer.TheVariants.{UnknownPath}
use Rattle.hgs_load.specs.Asks.{answer, at_rest, then_asks}
use Rattle.hgs_reader.specs.Contents.{tree_asks, cat_asks, tracked_node, file_node, body_asks}
use Rattle.hgs_reader.specs.Line.{changeset_asks, chunk_asks, span_asks, change_asks, change_at, change_of_chunk, change_of_text}
use Rattle.hgs_load.specs.View.{View, changelog_data, changelog_index}
use Rattle.hgs_reader.specs.Theorems.HeldLemmas.{read_there}
use Rattle.hgs_load.specs.Theorems.PartLemmas.{part_is}
use Rattle.hgs_load.specs.Theorems.OpenedLemmas.{rest_then}

-- ---- a changeset

pub change-at-rest : (t : Tree) (view : View) (rev : ℕ) (e : Entry) (text : List ℕ) (change : Change) → view.changelog.inline ≡ false → slice_get view.changelog.entries rev ≡ Some e → text_of view.changelog.entries rev (chunk_in (bytes_at t changelog_data) e) ≡ Ok text → read_change text ≡ Ok change
    → at_rest t (change_asks view rev) ≡ Ok change
change-at-rest t view rev e text change separate at read reads =
    ap (λ b. at_rest t (changeset_asks b rev (slice_get view.changelog.entries rev) (change_at view rev))) separate
    ∙ ap (λ o. at_rest t (chunk_asks changelog_data o (change_at view rev))) at
    ∙ ap (change_at view rev) (part_is (t changelog_data) e.offset e.stored)
    ∙ ap (change_of_chunk rev) read
    ∙ ap (change_of_text rev) reads

-- the chunk of an inline changelog stands in its index
pub change-placed : (t : Tree) (view : View) (rev : ℕ) (e : Entry) (text : List ℕ) (change : Change) → view.changelog.inline ≡ true → slice_get view.changelog.entries rev ≡ Some e → text_of view.changelog.entries rev (take e.stored (drop (span_in true rev e).from (bytes_at t changelog_index))) ≡ Ok text → read_change text ≡ Ok change
    → at_rest t (change_asks view rev) ≡ Ok change
change-placed t view rev e text change inline at read reads =
    ap (λ b. at_rest t (changeset_asks b rev (slice_get view.changelog.entries rev) (change_at view rev))) inline
    ∙ ap (λ o. at_rest t (span_asks changelog_index (option_map (span_in true rev) o) (change_at view rev))) at
    ∙ ap (change_at view rev) (part_is (t changelog_index) (span_in true rev e).from e.stored)
    ∙ ap (change_of_chunk rev) read
    ∙ ap (change_of_text rev) reads

pub change-read : (t : Tree) (view : View) (rev : ℕ) (revisions : List Revision) (r : Revision) (change : Change) → view.changelog.inline ≡ false → read_all view.changelog.entries (bytes_at t changelog_data) ≡ Ok revisions → slice_get revisions rev ≡ Some r → read_change r.text ≡ Ok change → at_rest t (change_asks view rev) ≡ Ok change
change-read t view rev revisions r change separate texts found reads =
    let data_bytes = bytes_at t changelog_data in
    let entries = view.changelog.entries in
    let there = read_there entries entries data_bytes 0 rev revisions r texts found in
    let from_first : 0 + rev ≡ rev = omega arith in
    change-at-rest t view rev there.0 r.text change separate there.1 (ap (λ n. text_of entries n (chunk_in data_bytes there.0)) (sym from_first) ∙ there.2) reads

-- ---- a path that no row has

pub unknown : (t : Tree) (view : View) (rev : ℕ) (rows : List Row) (path : List ℕ) → at_rest t (tree_asks view rev) ≡ Ok rows → found_in path rows ≡ None → at_rest t (cat_asks view rev path) ≡ Err UnknownPath
unknown t view rev rows path asked none =
    rest_then t (tree_asks view rev) (λ (rows : List Row). then_asks (answer (file_node path rows)) (λ node. body_asks path node)) rows asked
    ∙ ap (λ o. at_rest t (then_asks (answer (tracked_node (checked path) o)) (λ node. body_asks path node))) none
    ∙ by (checked path)
  where
    by : (x : Result Unit PathFault) → at_rest t (then_asks (answer (tracked_node x None)) (λ node. body_asks path node)) ≡ Err UnknownPath
    by (Ok u) = refl
    by (Err f) = refl
