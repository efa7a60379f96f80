-- What the laws of the crates below say, as the proofs of this crate take it.
use Rattle.std.specs.Prelude.{◌≡◌, ◌<◌, ◌≤◌, ◌/◌, ℕ, List, false, true, None, Some, Ok, Err, length, map, position, slice_get, slice_index_or, is_ok, drop, take}
use Rattle.std.specs.List.{AllByRecursion}
use Rattle.hgs_bytes.specs.Bytes.{IsPrefixOf, among, same}
use Rattle.hgs_files.specs.Tree.{Tree, bytes_at}
use Rattle.hgs_index.specs.declared.entry.Entry.{Entry}
use Rattle.hgs_index.specs.declared.kinds.Flag.{Flag}
use Rattle.hgs_index.specs.ChangeText.{Change, IsChange, change_text, read_change}
use Rattle.hgs_index.specs.FileText.{body_of}
use Rattle.hgs_index.specs.Inline.{chunks_apart, is_inline}
use Rattle.hgs_index.specs.Manifest.{Row, AreRows, manifest_text}
use Rattle.hgs_index.specs.Node.{null_node}
use Rattle.hgs_index.specs.Revision.{Parents, Revision, nodes}
use Rattle.hgs_index.specs.Revlog.{BeginsWithRevisions, HoldsRevisions, all_different}
use Rattle.hgs_index.specs.TrackedPath.{is_tracked}
use Rattle.hgs_manifest.specs.Held.{found_in}
use Rattle.hgs_marks.specs.Bookmarks.{Mark}
use Rattle.hgs_model.specs.Held.{IsHeld}
use Rattle.hgs_model.specs.History.{EachChangeset, changeset_nodes, history, no_history, node_at, parents_in, text_at, uses}
use Rattle.hgs_model.specs.IsRepo.{IsNextChangeset, IsRepo}
use Rattle.hgs_model.specs.Phase.{phase_number}
use Rattle.hgs_model.specs.Repo.{Changeset, Repo, TreeFile, all_parents}
use Rattle.hgs_path.specs.declared.name.Ext.TheVariants.{I, D}
use Rattle.hgs_path.specs.Check.{checked}
use Rattle.hgs_path.specs.StoreName.{store_name}
use Rattle.hgs_phases.specs.declared.roots.Root.{Root}
use Rattle.hgs_phases.specs.Phases.{history_of, phases_by}
use Rattle.hgs_revlog.specs.declared.fault.Tail.{Tail}
use Rattle.hgs_revlog.specs.declared.fault.Tail.TheVariants.{Ignore}
use Rattle.hgs_revlog.specs.Held.{Agrees, AreWithinLimits, chunk_in, read_all}
use Rattle.hgs_revlog.specs.Load.{loaded, loaded_either, most_revisions}
use Rattle.hgs_revlog.specs.Log.{Log, nodes_of, place_of}
use Rattle.hgs_revlog.specs.Text.{span_in, text_of}
use Rattle.hgs_load.specs.declared.answer.ReadAnswer.TheVariants.{UnknownPath}
use Rattle.hgs_load.specs.Asks.{at_rest}
use Rattle.hgs_load.specs.Form.{either_log_of, most_inline_index}
use Rattle.hgs_reader.specs.Contents.{most_files, most_file_text, tree_asks, files_text, files_asks, cat_asks}
use Rattle.hgs_reader.specs.Held.{HasText}
use Rattle.hgs_reader.specs.Line.{change_asks}
use Rattle.hgs_load.specs.Marks.{Nodes, Working, bookmarks_answer, dirstate_answer, roots_answer, working_answer}
use Rattle.hgs_load.specs.Open.{requires_path, most_requires, most_bookmarks_text, most_dirstate, most_roots, requires_asks, bookmarks_asks, dirstate_asks, log_asks, log_of, roots_asks, open_asks}
use Rattle.hgs_load.specs.Refresh.{first_changed, refresh_asks}
use Rattle.hgs_load.specs.Requirements.{requires_answer}
use Rattle.hgs_load.specs.View.{View}
use Rattle.hgs_stands.specs.Places.{bookmarks_path, dirstate_path, roots_path, changelog_index, changelog_data, manifest_index, manifest_data}
use Rattle.hgs_stands.specs.Shows.{Shows}
use Rattle.hgs_stands.specs.Stands.{Stands, changeset_entries}

pub record Below : Type 0 where
  pub change : (c : Change) → IsChange c → read_change (change_text c) ≡ Ok c
  pub counted : (revisions : List Revision) → length (nodes revisions) ≡ length revisions
  pub first_place : (known : List (List ℕ)) (rev : ℕ) → all_different known ≡ true → rev < length known → position (λ n. same n (slice_index_or known rev null_node)) known ≡ Some rev
  pub not_null : (known : List (List ℕ)) (rev : ℕ) → among null_node known ≡ false → rev < length known → same (slice_index_or known rev null_node) null_node ≡ false
  pub held : (changesets : List Changeset) → EachChangeset IsNextChangeset no_history changesets → (rev : ℕ) (c : Changeset) → slice_get changesets rev ≡ Some c → IsHeld (history (take rev changesets)) (history changesets) rev c
  pub nodes_go_on : (front all : List Changeset) → IsPrefixOf front all → IsPrefixOf (changeset_nodes front) (changeset_nodes all)
  pub there : (revisions : List Revision) (rev : ℕ) → rev < length revisions → (r : Revision) × (slice_get revisions rev ≡ Some r) × (r.text ≡ text_at revisions rev)
  pub node_stays : (front revisions : List Revision) (rev : ℕ) → IsPrefixOf front revisions → rev < length front → node_at revisions rev ≡ node_at front rev
  pub used : (changesets : List Changeset) (rev : ℕ) (c : Changeset) → slice_get changesets rev ≡ Some c → AllByRecursion (λ (f : TreeFile). uses changesets f.path ≡ true) c.tree
  pub count : (r : Repo) → IsRepo r → length (history r.changesets).changelog ≡ length r.changesets
  pub parents : (r : Repo) → IsRepo r → parents_in (history r.changesets).changelog ≡ all_parents r.changesets
  pub tested : (path : List ℕ) → is_ok (checked path) ≡ is_tracked path
  pub entry_nodes : (index data_bytes : List ℕ) (entries : List Entry) (revisions : List Revision) → Agrees index data_bytes entries revisions → nodes_of entries ≡ nodes revisions
  pub entry_parents : (index data_bytes : List ℕ) (entries : List Entry) (revisions : List Revision) → Agrees index data_bytes entries revisions → map (λ (e : Entry). let p : Parents = (e.p1, e.p2) in p) entries ≡ map (λ (r : Revision). r.parents) revisions
  pub entry_count : (index data_bytes : List ℕ) (entries : List Entry) (revisions : List Revision) → Agrees index data_bytes entries revisions → length entries ≡ length revisions
  pub place : (entries : List Entry) (node : List ℕ) → place_of entries node ≡ position (λ n. same n node) (nodes_of entries)
  pub loads : (index data_bytes : List ℕ) (revisions : List Revision) → (begins : BeginsWithRevisions index data_bytes revisions) → length revisions ≡ length index / 64 → AreWithinLimits revisions data_bytes → (log : Log) × (loaded Ignore index ≡ Ok log) × (read_all log.entries data_bytes ≡ Ok revisions) × Agrees begins.index_front begins.data_front log.entries revisions
  pub loads_whole : (index data_bytes : List ℕ) (revisions : List Revision) → HoldsRevisions index data_bytes revisions → AreWithinLimits revisions data_bytes → (log : Log) × (loaded Ignore index ≡ Ok log) × Agrees index data_bytes log.entries revisions
  pub separate_form : (tail : Tail) (index : List ℕ) → is_inline index ≡ false → loaded_either tail index ≡ loaded tail index
  pub places : (tail : Tail) (index : List ℕ) (log : Log) (rev : ℕ) (e : Entry) → loaded_either tail index ≡ Ok log → log.inline ≡ true → slice_get log.entries rev ≡ Some e → take e.stored (drop (span_in true rev e).from index) ≡ chunk_in (chunks_apart index) e
  pub entry : (entries : List Entry) (data_bytes : List ℕ) (revisions : List Revision) (rev : ℕ) (r : Revision) → read_all entries data_bytes ≡ Ok revisions → slice_get revisions rev ≡ Some r → (e : Entry) × (slice_get entries rev ≡ Some e) × (text_of entries rev (chunk_in data_bytes e) ≡ Ok r.text)
  pub requires_file : (t : Tree) → length (bytes_at t requires_path) ≤ most_requires → at_rest t requires_asks ≡ requires_answer (t requires_path)
  pub bookmarks_file : (t : Tree) → length (bytes_at t bookmarks_path) ≤ most_bookmarks_text → at_rest t bookmarks_asks ≡ bookmarks_answer (t bookmarks_path)
  pub dirstate_file : (t : Tree) → length (bytes_at t dirstate_path) ≤ most_dirstate → at_rest t dirstate_asks ≡ dirstate_answer (t dirstate_path)
  pub roots_file : (t : Tree) → length (bytes_at t roots_path) ≤ most_roots → at_rest t roots_asks ≡ roots_answer (t roots_path)
  pub index_file : (t : Tree) → is_inline (bytes_at t changelog_index) ≡ false → length (bytes_at t changelog_index) / 64 ≤ most_revisions → at_rest t log_asks ≡ log_of (bytes_at t changelog_index)
  pub inline_file : (t : Tree) → is_inline (bytes_at t changelog_index) ≡ true → length (bytes_at t changelog_index) ≤ most_inline_index → at_rest t log_asks ≡ either_log_of (bytes_at t changelog_index)
  pub opened : (t : Tree) (marks : List Mark) (nodes : Nodes) (log : Log) (roots : List Root) (working : Working) → at_rest t requires_asks ≡ Ok tt → at_rest t bookmarks_asks ≡ Ok marks → at_rest t dirstate_asks ≡ Ok nodes → at_rest t log_asks ≡ Ok log → at_rest t roots_asks ≡ Ok roots → working_answer log.entries nodes ≡ Ok working → at_rest t open_asks ≡ Ok (record { changelog = log; bookmarks = marks; working = working; phases = phases_by roots log.entries })
  pub refreshed : (t : Tree) (old : View) (marks : List Mark) (nodes : Nodes) (log : Log) (roots : List Root) (working : Working) → at_rest t bookmarks_asks ≡ Ok marks → at_rest t dirstate_asks ≡ Ok nodes → at_rest t log_asks ≡ Ok log → at_rest t roots_asks ≡ Ok roots → working_answer log.entries nodes ≡ Ok working → first_changed 0 old.changelog.entries log.entries ≡ None → (old.changelog.inline ≡ false → log.inline ≡ false) → at_rest t (refresh_asks old) ≡ Ok (record { changelog = log; bookmarks = marks; working = working; phases = phases_by roots log.entries })
  pub placed : (t : Tree) (view : View) (rev : ℕ) (entry : Entry) (text : List ℕ) (change : Change) → view.changelog.inline ≡ true → slice_get view.changelog.entries rev ≡ Some entry → text_of view.changelog.entries rev (take entry.stored (drop (span_in true rev entry).from (bytes_at t changelog_index))) ≡ Ok text → read_change text ≡ Ok change → at_rest t (change_asks view rev) ≡ Ok change
  pub changeset : (t : Tree) (view : View) (rev : ℕ) (revisions : List Revision) (r : Revision) (change : Change) → view.changelog.inline ≡ false → read_all view.changelog.entries (bytes_at t changelog_data) ≡ Ok revisions → slice_get revisions rev ≡ Some r → read_change r.text ≡ Ok change → at_rest t (change_asks view rev) ≡ Ok change
  pub tree : (t : Tree) (view : View) (rev : ℕ) (change : Change) (rows : List Row) → at_rest t (change_asks view rev) ≡ Ok change → same change.manifest null_node ≡ false → HasText t manifest_index manifest_data change.manifest (manifest_text rows) → AreRows rows → length rows ≤ most_files → at_rest t (tree_asks view rev) ≡ Ok rows
  pub files : (t : Tree) (view : View) (rev : ℕ) (rows : List Row) → at_rest t (tree_asks view rev) ≡ Ok rows → at_rest t (files_asks view rev) ≡ Ok (files_text rows)
  pub body : (t : Tree) (view : View) (rev : ℕ) (rows : List Row) (path node text : List ℕ) (flag : Flag) → at_rest t (tree_asks view rev) ≡ Ok rows → checked path ≡ Ok tt → found_in path rows ≡ Some (node, flag) → HasText t (store_name path I) (store_name path D) node text → length (body_of text) ≤ most_file_text → at_rest t (cat_asks view rev path) ≡ Ok (body_of text)
  pub unknown : (t : Tree) (view : View) (rev : ℕ) (rows : List Row) (path : List ℕ) → at_rest t (tree_asks view rev) ≡ Ok rows → found_in path rows ≡ None → at_rest t (cat_asks view rev path) ≡ Err UnknownPath
  pub phases : (r : Repo) (entries : List Entry) (roots : List Root) (phases : List ℕ) → IsRepo r → nodes_of entries ≡ changeset_nodes r.changesets → history_of entries ≡ all_parents r.changesets → map phase_number (phases_by roots (changeset_entries r.changesets)) ≡ phases → map phase_number (phases_by roots entries) ≡ phases
  pub shows : (t : Tree) (r : Repo) → Stands t r → Shows t r r r
