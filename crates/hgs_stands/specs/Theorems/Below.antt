-- What the laws of the crates below say, as the proofs of this crate take it.
use Rattle.std.specs.Prelude.{◌≡◌, ◌↔◌, ◌<◌, ◌*◌, ℕ, List, ◌++◌, true, Some, Ok, codes, length, slice_get, slice_index_or, take}
use Rattle.std.specs.List.{AllByRecursion}
use Rattle.hgs_bytes.specs.Bytes.{among}
use Rattle.hgs_files.specs.Tree.{Tree, after_all}
use Rattle.hgs_index.specs.declared.entry.Entry.{Entry}
use Rattle.hgs_index.specs.ChangeText.{Change, IsChange, change_text, read_change}
use Rattle.hgs_index.specs.Either.{BeginsEither, HoldsEither}
use Rattle.hgs_index.specs.Hex.{hex}
use Rattle.hgs_index.specs.Inline.{index_apart}
use Rattle.hgs_index.specs.Hex.{node_at as hex_node}
use Rattle.hgs_index.specs.Manifest.{Row, AreRows, manifest_text, read_manifest}
use Rattle.hgs_index.specs.Node.{IsNode, null_node}
use Rattle.hgs_index.specs.Revision.{Revision, nodes}
use Rattle.hgs_index.specs.Revlog.{HoldsRevisions, all_different, chunk_of, chunk_text}
use Rattle.hgs_journal.specs.declared.backups.BackupLine.{BackupLine}
use Rattle.hgs_journal.specs.declared.journal.JournalLine.{JournalLine}
use Rattle.hgs_journal.specs.Covers.{Covers, HasOwnStrays, ReadsAs, Restores, undo_ops}
use Rattle.hgs_marks.specs.Bookmarks.{Mark, bookmarks_text, mark_lines}
use Rattle.hgs_marks.specs.Texts.{IsMark}
use Rattle.hgs_model.specs.Held.{IsHeld}
use Rattle.hgs_model.specs.History.{EachChangeset, history, no_history, node_at, parents_in, text_at, uses}
use Rattle.hgs_model.specs.IsRepo.{IsNextChangeset, IsRepo}
use Rattle.hgs_model.specs.Repo.{Changeset, Repo, TreeFile, all_parents}
use Rattle.hgs_path.specs.declared.name.Ext.{Ext}
use Rattle.hgs_path.specs.ListedNames.{is_listed, listed_file, names_of}
use Rattle.hgs_path.specs.StoreName.{store_name}
use Rattle.hgs_phases.specs.declared.roots.Root.{Root}
use Rattle.hgs_phases.specs.Phases.{history_of, phases_by}
use Rattle.hgs_phases.specs.Roots.{IsTextOf, read_roots}
use Rattle.hgs_revlog.specs.Log.{nodes_of}

-- what bytes hold, and what is read of texts
pub record TextLaws : Type 0 where
  pub either_once : (index data_bytes : List ℕ) (revisions others : List Revision) → HoldsEither index data_bytes revisions → HoldsEither index data_bytes others → revisions ≡ others
  pub either_begins : (index data_bytes : List ℕ) (revisions : List Revision) → HoldsEither index data_bytes revisions → BeginsEither index data_bytes revisions
  pub either_length : (index data_bytes : List ℕ) (revisions : List Revision) → HoldsEither index data_bytes revisions → length (index_apart index) ≡ 64 * length revisions
  pub counted : (revisions : List Revision) → length (nodes revisions) ≡ length revisions
  pub among_known : (known : List (List ℕ)) (rev : ℕ) → rev < length known → among (slice_index_or known rev null_node) known ≡ true
  pub one_place : (known : List (List ℕ)) (i j : ℕ) → all_different known ≡ true → i < length known → j < length known → slice_index_or known i null_node ≡ slice_index_or known j null_node → i ≡ j
  pub change : (c : Change) → IsChange c → read_change (change_text c) ≡ Ok c
  pub rows : (rows : List Row) → AreRows rows → read_manifest (manifest_text rows) ≡ Ok rows

-- what the revisions of a history say
pub record HistoryLaws : Type 0 where
  pub held : (changesets : List Changeset) → EachChangeset IsNextChangeset no_history changesets → (rev : ℕ) (c : Changeset) → slice_get changesets rev ≡ Some c → IsHeld (history (take rev changesets)) (history changesets) rev c
  pub count : (changesets : List Changeset) → EachChangeset IsNextChangeset no_history changesets → length (history changesets).changelog ≡ length changesets
  pub there : (revisions : List Revision) (rev : ℕ) → rev < length revisions → (r : Revision) × (slice_get revisions rev ≡ Some r) × (r.text ≡ text_at revisions rev)
  pub one : (revisions : List Revision) (i j : ℕ) → all_different (nodes revisions) ≡ true → i < length revisions → j < length revisions → node_at revisions i ≡ node_at revisions j → i ≡ j
  pub used : (changesets : List Changeset) (rev : ℕ) (c : Changeset) → slice_get changesets rev ≡ Some c → AllByRecursion (λ (f : TreeFile). uses changesets f.path ≡ true) c.tree
  pub parents : (r : Repo) → IsRepo r → parents_in (history r.changesets).changelog ≡ all_parents r.changesets

-- what the names of filelogs' files are
pub record NameLaws : Type 0 where
  pub file : (path : List ℕ) (ext : Ext) → (rest : List ℕ) × (store_name path ext ≡ codes "store/d" ++ rest)
  pub listed : (name : List ℕ) → is_listed name ≡ true → (rest : List ℕ) × (listed_file name ≡ codes "store/d" ++ rest)
  pub read : (text : List ℕ) (names : List (List ℕ)) → names_of text ≡ Ok names → AllByRecursion (λ name. is_listed name ≡ true) names

-- what gives phases
abbrev pub PhaseLaw : Type 0
PhaseLaw = (roots : List Root) (entries others : List Entry) → nodes_of entries ≡ nodes_of others → history_of entries ≡ history_of others → phases_by roots entries ≡ phases_by roots others

-- what undoing leads to
pub record UndoLaws : Type 0 where
  pub read : (strays : List (List ℕ)) (t q : Tree) → Covers strays t q → (journal : List JournalLine) × (backups : List BackupLine) × ReadsAs t journal backups
  pub leads : (strays : List (List ℕ)) (t q : Tree) (journal : List JournalLine) (backups : List BackupLine) → HasOwnStrays strays → Covers strays t q → ReadsAs t journal backups → Restores strays (after_all (undo_ops t journal backups) t) q

-- what the sample needs
pub record SampleLaws : Type 0 where
  pub chunk : (text : List ℕ) → chunk_text (chunk_of text) ≡ Some text
  pub separate : (index data_bytes : List ℕ) (revisions : List Revision) → HoldsRevisions index data_bytes revisions → HoldsEither index data_bytes revisions
  pub either_begins : (index data_bytes : List ℕ) (revisions : List Revision) → HoldsEither index data_bytes revisions → BeginsEither index data_bytes revisions
  pub either_more : (index data_bytes more more_data : List ℕ) (revisions : List Revision) → BeginsEither index data_bytes revisions → BeginsEither (index ++ more) (data_bytes ++ more_data) revisions
  pub node_back : (node : List ℕ) → IsNode node → hex_node (hex node) ≡ Some node
  pub node : (revisions : List Revision) (rev : ℕ) → IsNode (node_at revisions rev)
  pub roots : (roots : List Root) (text : List ℕ) → (read_roots text ≡ Ok roots ↔ IsTextOf roots text)
  pub lines : (marks : List Mark) → AllByRecursion IsMark marks → mark_lines (bookmarks_text marks) ≡ Ok marks
