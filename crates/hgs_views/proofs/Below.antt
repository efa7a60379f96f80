-- What the laws of the crates below say, as the proofs of this crate take it.
use Rattle.std.proofs.Common.{◌≡◌, ◌⊎◌, ℕ, suc, ◌+◌, ◌*◌, ◌/◌, ◌<◌, ◌≤◌, List, ◌++◌, Bool, true, false, length, map, take, drop, Some, None, Ok, Result}
use Rattle.std.specs.Prelude.{◌↔◌, position, slice_get}
use Rattle.std.specs.List.{AllByRecursion, AllZip, list_all}
use Rattle.hgs_bytes.specs.Bytes.{among, same, IsPrefixOf}
use Rattle.hgs_files.specs.declared.op.Op.{Op}
use Rattle.hgs_files.specs.Tree.{Tree, bytes_at}
use Rattle.hgs_index.specs.declared.entry.Entry.{Entry}
use Rattle.hgs_index.specs.declared.node.Node.{Node}
use Rattle.hgs_index.specs.Ancestor.{IsAncestor, IsParent, is_ancestor}
use Rattle.hgs_index.specs.ChangeText.{Change, IsChange, change_text, read_change}
use Rattle.hgs_index.specs.Inline.{chunks_apart, is_inline}
use Rattle.hgs_index.specs.Manifest.{Row, AreRows, AscendFrom, manifest_text, read_manifest}
use Rattle.hgs_index.specs.Node.{null_node}
use Rattle.hgs_index.specs.Revision.{Revision, Parents, ParentsBefore, nodes}
use Rattle.hgs_index.specs.Revlog.{HoldsRevisions, BeginsWithRevisions, all_different}
use Rattle.hgs_index.specs.TrackedPath.{is_tracked}
use Rattle.hgs_manifest.specs.Held.{found_in}
use Rattle.hgs_model.specs.Held.{IsHeld}
use Rattle.hgs_model.specs.History.{EachChangeset, changeset_nodes, history, no_history, node_at, parents_in, text_at, uses}
use Rattle.hgs_model.specs.IsRepo.{IsNextChangeset, IsRepo}
use Rattle.hgs_model.specs.Phase.{phase_number}
use Rattle.hgs_model.specs.Repo.{Repo, Changeset, TreeFile, all_parents, tree_paths}
use Rattle.hgs_path.specs.declared.name.Ext.{Ext}
use Rattle.hgs_path.specs.declared.name.Ext.TheVariants.{I, D}
use Rattle.hgs_path.specs.Check.{checked}
use Rattle.hgs_path.specs.StoreName.{store_name}
use Rattle.hgs_phases.specs.declared.roots.Root.{Root}
use Rattle.hgs_phases.specs.Phases.{history_of, phases_by}
use Rattle.hgs_revlog.specs.declared.fault.Tail.{Tail}
use Rattle.hgs_revlog.specs.declared.fault.Tail.TheVariants.{Ignore, Refuse, Until}
use Rattle.hgs_revlog.specs.Held.{Agrees, AreWithinLimits, EndsFirstAt, chunk_in, read_all}
use Rattle.hgs_revlog.specs.Load.{loaded, loaded_either}
use Rattle.hgs_revlog.specs.Log.{Log, nodes_of, place_of}
use Rattle.hgs_revlog.specs.Text.{span_in, text_of}
use Rattle.hgs_load.specs.declared.answer.ReadAnswer.{ReadAnswer}
use Rattle.hgs_load.specs.Asks.{at_rest, MayAnswer}
use Rattle.hgs_reader.specs.Find.{has_node, separate_asks, text_asks}
use Rattle.hgs_reader.specs.Held.{HasSeparateText}
use Rattle.hgs_reader.specs.Line.{change_asks, line_asks, line_text}
use Rattle.hgs_load.specs.Marks.{working_answer}
use Rattle.hgs_load.specs.Open.{most_requires, requires_path, requires_asks, bookmarks_asks, dirstate_asks, roots_asks}
use Rattle.hgs_load.specs.View.{View}
use Rattle.hgs_stands.specs.Places.{changelog_data, changelog_index, own_files}
use Rattle.hgs_stands.specs.Requires.{IsInProfile}
use Rattle.hgs_stands.specs.Shows.{BeginsAt, Shows}
use Rattle.hgs_stands.specs.Stands.{Stands, changeset_entries, entries_of, mark_of}
use Rattle.hgs_shown.specs.Found.{HasPathOf, IsFound}
use Rattle.hgs_shown.specs.Limits.{OpensWithin, IsSmallTree}
use Rattle.hgs_shown.specs.Shown.{working_nodes}
use Rattle.hgs_views.specs.Moments.{StaysAt}

-- entries that agree with revisions have their parents
abbrev pub ParentsLaw : Type 0
ParentsLaw = (index data_bytes : List ℕ) (entries : List Entry) (revisions : List Revision) → Agrees index data_bytes entries revisions → history_of entries ≡ parents_in revisions

-- a revision of a separate revlog is what a search by its node finds
abbrev pub TextLaw : Type 0
TextLaw = (t : Tree) (index chunks : List ℕ) (revisions : List Revision) (rev : ℕ) (node text : List ℕ) → BeginsWithRevisions (bytes_at t index) (bytes_at t chunks) revisions → AreWithinLimits revisions (bytes_at t chunks) → rev < length revisions → node_at revisions rev ≡ node → text_at revisions rev ≡ text → HasSeparateText t index chunks node text

-- files that stand for a repository show it
abbrev pub ShowsLaw : Type 0
ShowsLaw = (t : Tree) (r : Repo) → Stands t r → Shows t r r r

-- no file of a filelog is another file of a repository
abbrev pub ApartLaw : Type 0
ApartLaw = (path : List ℕ) (ext : Ext) → among (store_name path ext) own_files ≡ false

abbrev pub NodesLaw : Type 0
NodesLaw = (index data_bytes : List ℕ) (entries : List Entry) (revisions : List Revision) → Agrees index data_bytes entries revisions → nodes_of entries ≡ nodes revisions

abbrev pub PlaceLaw : Type 0
PlaceLaw = (entries : List Entry) (node : List ℕ) → place_of entries node ≡ position (λ n. same n node) (nodes_of entries)

abbrev pub CountLaw : Type 0
CountLaw = (r : Repo) → IsRepo r → length (history r.changesets).changelog ≡ length r.changesets

abbrev pub SizeLaw : Type 0
SizeLaw = (index data_bytes : List ℕ) (revisions : List Revision) → HoldsRevisions index data_bytes revisions → length index ≡ 64 * length revisions

abbrev pub LoadsLaw : Type 0
LoadsLaw = (index data_bytes : List ℕ) (revisions : List Revision) → (begins : BeginsWithRevisions index data_bytes revisions) → length revisions ≡ length index / 64 → AreWithinLimits revisions data_bytes
    → (log : Log) × (loaded Ignore index ≡ Ok log) × (read_all log.entries data_bytes ≡ Ok revisions) × Agrees begins.index_front begins.data_front log.entries revisions

-- the phase roots of a repository give an earlier one the first of its phases
abbrev pub RootsLaw : Type 0
RootsLaw = (roots : List Root) (r s : Repo) → IsRepo r → IsRepo s → IsPrefixOf r.changesets s.changesets → map phase_number (phases_by roots (changeset_entries s.changesets)) ≡ s.phases → map phase_number (phases_by roots (changeset_entries r.changesets)) ≡ take (length r.changesets) s.phases

abbrev pub ChangelogLaw : Type 0
ChangelogLaw = (front all : List Changeset) → IsPrefixOf front all → IsPrefixOf (history front).changelog (history all).changelog

-- a parent comes before its child
abbrev pub BeforeLaw : Type 0
BeforeLaw = (h : List Parents) (child parent : ℕ) → ParentsBefore 0 h → IsParent h parent child → parent < child

-- what a text by its node needs in a separate revlog
pub record TextLaws : Type 0 where
  pub found : TextLaw
  pub held : (t : Tree) (index chunks node text : List ℕ) → HasSeparateText t index chunks node text → at_rest t (separate_asks index chunks node) ≡ Ok text
  pub loads : (index data_bytes : List ℕ) (revisions : List Revision) (node : Node) → (begins : BeginsWithRevisions index data_bytes revisions) → EndsFirstAt node.0 revisions → AreWithinLimits revisions begins.data_front
      → (log : Log) × (loaded (Until node) index ≡ Ok log) × (read_all log.entries data_bytes ≡ Ok revisions) × Agrees begins.index_front begins.data_front log.entries revisions
  pub last : (index : List ℕ) (log : Log) (node : Node) → loaded (Until node) index ≡ Ok log → (before : ℕ) × (has_node node.0 before index ≡ false) × (has_node node.0 (suc before) index ≡ true) × (64 * suc before ≤ length index)
  pub behind : (node : List ℕ) (first rest all : ℕ) (bytes : List ℕ) (found : Bool) → all ≡ first + rest → has_node node first bytes ≡ false → has_node node rest (drop (64 * first) bytes) ≡ found → has_node node all bytes ≡ found
  pub front : (node : List ℕ) (count size : ℕ) (bytes : List ℕ) → 64 * count ≤ size → has_node node count (take size bytes) ≡ has_node node count bytes
  pub more : (node : List ℕ) (count more : ℕ) (bytes : List ℕ) → count ≤ more → has_node node count bytes ≡ true → has_node node more bytes ≡ true

-- what phases of a front need
pub record FrontLaws : Type 0 where
  pub test : (h : List Parents) (a b : ℕ) → ParentsBefore 0 h → b < length h → (is_ancestor h a b ≡ true ↔ IsAncestor h a b)
  pub ancestors : (h more : List Parents) (a b : ℕ) → b < length h → is_ancestor (h ++ more) a b ≡ is_ancestor h a b
  pub before : BeforeLaw
  pub stays : (node : List ℕ) (rev : ℕ) (front back : List Entry) → place_of front node ≡ Some rev → place_of (front ++ back) node ≡ Some rev
  pub behind : (node : List ℕ) (front back : List Entry) → place_of front node ≡ None → (place_of (front ++ back) node ≡ None) ⊎ ((rev : ℕ) × (place_of (front ++ back) node ≡ Some rev) × (length front ≤ rev))
  pub entry_nodes : (revisions : List Revision) → nodes_of (entries_of revisions) ≡ nodes revisions
  pub parents : (revisions : List Revision) → history_of (entries_of revisions) ≡ parents_in revisions
  pub same_phases : (roots : List Root) (entries others : List Entry) → nodes_of entries ≡ nodes_of others → history_of entries ≡ history_of others → phases_by roots entries ≡ phases_by roots others
  pub counted : (revisions : List Revision) → length (nodes revisions) ≡ length revisions
  pub count : CountLaw
  pub all_parents_are : (r : Repo) → IsRepo r → parents_in (history r.changesets).changelog ≡ all_parents r.changesets
  pub changelog : ChangelogLaw
  pub nodes_front : (front all : List Changeset) → IsPrefixOf front all → IsPrefixOf (changeset_nodes front) (changeset_nodes all)

-- what a load needs
pub record LoadLaws : Type 0 where
  pub requirements : (t : Tree) → IsInProfile t → length (bytes_at t requires_path) ≤ most_requires → at_rest t requires_asks ≡ Ok tt
  pub bookmarks : (t : Tree) (marked worked r : Repo) → Shows t marked worked r → OpensWithin t marked r → at_rest t bookmarks_asks ≡ Ok (map (mark_of (changeset_nodes marked.changesets)) marked.bookmarks)
  pub dirstate : (t : Tree) (marked worked r : Repo) → Shows t marked worked r → OpensWithin t marked r → at_rest t dirstate_asks ≡ Ok (working_nodes worked)
  pub roots : (t : Tree) (marked worked r : Repo) (shows : Shows t marked worked r) → OpensWithin t marked r → at_rest t roots_asks ≡ Ok shows.phases.roots
  pub working : (entries : List Entry) (worked r : Repo) → IsRepo worked → IsPrefixOf worked.changesets r.changesets → nodes_of entries ≡ changeset_nodes r.changesets → all_different (changeset_nodes r.changesets) ≡ true → among null_node (changeset_nodes r.changesets) ≡ false
      → working_answer entries (working_nodes worked) ≡ Ok worked.working
  pub parents : ParentsLaw
  pub size : SizeLaw
  pub count : CountLaw
  pub all_parents_are : (r : Repo) → IsRepo r → parents_in (history r.changesets).changelog ≡ all_parents r.changesets
  pub nodes : NodesLaw
  pub entries : (index data_bytes : List ℕ) (entries : List Entry) (revisions : List Revision) → Agrees index data_bytes entries revisions → length entries ≡ length revisions
  pub loads : LoadsLaw
  pub separate : (tail : Tail) (index : List ℕ) → is_inline index ≡ false → loaded_either tail index ≡ loaded tail index
  pub whole : (index : List ℕ) → loaded Ignore index ≡ loaded Refuse (take (64 * (length index / 64)) index)
  pub phases : (r : Repo) (entries : List Entry) (roots : List Root) (phases : List ℕ) → IsRepo r → nodes_of entries ≡ changeset_nodes r.changesets → history_of entries ≡ all_parents r.changesets → map phase_number (phases_by roots (changeset_entries r.changesets)) ≡ phases
      → map phase_number (phases_by roots entries) ≡ phases
  pub roots_before : RootsLaw
  pub changelog : ChangelogLaw

-- what the contents of a changeset need
pub record ContentLaws : Type 0 where
  pub texts : (start store : Tree) (first last : List Op) (index chunks : List ℕ) (revisions : List Revision) (rev : ℕ) (node text : List ℕ) (y : Result (List ℕ) ReadAnswer) → StaysAt start first last store index chunks revisions → same index chunks ≡ false → rev < length revisions
      → node_at revisions rev ≡ node → text_at revisions rev ≡ text → MayAnswer start first (text_asks index chunks node) last y → y ≡ Ok text
  pub entry : (entries : List Entry) (data_bytes : List ℕ) (revisions : List Revision) (rev : ℕ) (r : Revision) → read_all entries data_bytes ≡ Ok revisions → slice_get revisions rev ≡ Some r → (e : Entry) × (slice_get entries rev ≡ Some e) × (text_of entries rev (chunk_in data_bytes e) ≡ Ok r.text)
  pub held : (changesets : List Changeset) → EachChangeset IsNextChangeset no_history changesets → (rev : ℕ) (c : Changeset) → slice_get changesets rev ≡ Some c → IsHeld (history (take rev changesets)) (history changesets) rev c
  pub used : (changesets : List Changeset) (rev : ℕ) (c : Changeset) → slice_get changesets rev ≡ Some c → AllByRecursion (λ (f : TreeFile). uses changesets f.path ≡ true) c.tree
  pub change_text : (c : Change) → IsChange c → read_change (change_text c) ≡ Ok c
  pub rows_text : (rows : List Row) → AreRows rows → read_manifest (manifest_text rows) ≡ Ok rows
  pub kinds : (path other : List ℕ) → same (store_name path I) (store_name other D) ≡ false
  pub size : SizeLaw
  pub loads : LoadsLaw
  pub changelog : ChangelogLaw
  pub manifest : (front all : List Changeset) → IsPrefixOf front all → IsPrefixOf (history front).manifest (history all).manifest
  pub filelogs : (front all : List Changeset) (path : List ℕ) → IsPrefixOf front all → IsPrefixOf ((history front).filelog path) ((history all).filelog path)
  pub not_null : (t : Tree) (index chunks : List ℕ) (revisions : List Revision) (rev : ℕ) (node : List ℕ) → BeginsAt t index chunks revisions → rev < length revisions → node_at revisions rev ≡ node → same node null_node ≡ false
  pub placed : (t : Tree) (view : View) (rev : ℕ) (entry : Entry) (text : List ℕ) (change : Change) → view.changelog.inline ≡ true → slice_get view.changelog.entries rev ≡ Some entry → text_of view.changelog.entries rev (take entry.stored (drop (span_in true rev entry).from (bytes_at t changelog_index))) ≡ Ok text → read_change text ≡ Ok change
      → at_rest t (change_asks view rev) ≡ Ok change
  pub places : (tail : Tail) (index : List ℕ) (log : Log) (rev : ℕ) (e : Entry) → loaded_either tail index ≡ Ok log → log.inline ≡ true → slice_get log.entries rev ≡ Some e → take e.stored (drop (span_in true rev e).from index) ≡ chunk_in (chunks_apart index) e
  pub line : (t : Tree) (view : View) (rev : ℕ) (entry : Entry) (change : Change) → slice_get view.changelog.entries rev ≡ Some entry → at_rest t (change_asks view rev) ≡ Ok change → at_rest t (line_asks view rev) ≡ Ok (line_text rev entry change)
  pub change : (t : Tree) (view : View) (rev : ℕ) (entry : Entry) (text : List ℕ) (change : Change) → view.changelog.inline ≡ false → slice_get view.changelog.entries rev ≡ Some entry → text_of view.changelog.entries rev (chunk_in (bytes_at t changelog_data) entry) ≡ Ok text → read_change text ≡ Ok change
      → at_rest t (change_asks view rev) ≡ Ok change
  pub rows : (last : List ℕ) (rows : List Row) → AscendFrom last rows → AllByRecursion (IsFound rows) rows
  pub others : (path : List ℕ) (tree : List TreeFile) (rows : List Row) → AllZip HasPathOf tree rows → among path (tree_paths tree) ≡ false → found_in path rows ≡ None
  pub tracked : (changesets : List Changeset) (rev : ℕ) (c : Changeset) → EachChangeset IsNextChangeset no_history changesets → slice_get changesets rev ≡ Some c → list_all is_tracked (tree_paths c.tree) ≡ true
  pub pass : (path : List ℕ) → is_tracked path ≡ true → checked path ≡ Ok tt
  pub small : (changesets : List Changeset) (rev : ℕ) (c : Changeset) → AllByRecursion (λ (x : Changeset). IsSmallTree x.tree) changesets → slice_get changesets rev ≡ Some c → IsSmallTree c.tree
  pub parents : ParentsLaw
  pub nodes : NodesLaw
