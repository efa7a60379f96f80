-- What the laws of the crates below say, as the proofs of this crate take it.
use Rattle.std.specs.Prelude.{◌≡◌, ◌<◌, ℕ, List, [], ◌∷◌, ◌++◌, true, false, Some, Ok, length, position, slice_index_or, is_ok}
use Rattle.std.specs.List.{AllByRecursion}
use Rattle.hgs_bytes.specs.Bytes.{among, same}
use Rattle.hgs_bytes.specs.Text.{line}
use Rattle.hgs_index.specs.declared.entry.Entry.{Entry}
use Rattle.hgs_index.specs.Node.{IsNode, null_node}
use Rattle.hgs_index.specs.Revision.{ParentsBefore, Revision, nodes}
use Rattle.hgs_index.specs.Revlog.{all_different, chunk_of, chunk_text}
use Rattle.hgs_index.specs.TrackedPath.{is_tracked}
use Rattle.hgs_marks.specs.Bookmarks.{Mark, bookmarks_text, mark_lines, read_bookmarks}
use Rattle.hgs_marks.specs.Dirstate.{Dirstate, dirstate_text, read_dirstate}
use Rattle.hgs_marks.specs.Texts.{AreBookmarks, IsDirstate, IsMark}
use Rattle.hgs_model.specs.declared.phase.Phase.{Phase}
use Rattle.hgs_model.specs.History.{history, node_at, parents_in}
use Rattle.hgs_model.specs.IsRepo.{IsRepo}
use Rattle.hgs_model.specs.Repo.{Repo, all_parents}
use Rattle.hgs_path.specs.declared.name.Ext.{Ext}
use Rattle.hgs_path.specs.declared.name.Ext.TheVariants.{I, D}
use Rattle.hgs_path.specs.Check.{checked}
use Rattle.hgs_path.specs.ListedNames.{names_of}
use Rattle.hgs_path.specs.StoreName.{listed_name, store_name}
use Rattle.hgs_phases.specs.Changelog.{ArePhases, HaveNodes, IsChangelog}
use Rattle.hgs_phases.specs.Phases.{history_of, phases_by}
use Rattle.hgs_phases.specs.Printed.{written_roots}
use Rattle.hgs_phases.specs.Roots.{read_roots, roots_text}
use Rattle.hgs_revlog.specs.Log.{nodes_of}
use Rattle.hgs_stands.specs.Places.{own_files}
use Rattle.hgs_stands.specs.Stands.{entries_of}

-- revisions: their chunks, nodes and parents
pub record RevisionLaws : Type 0 where
  pub chunk : (text : List ℕ) → chunk_text (chunk_of text) ≡ Some text
  pub counted : (revisions : List Revision) → length (nodes revisions) ≡ length revisions
  pub among_known : (known : List (List ℕ)) (rev : ℕ) → rev < length known → among (slice_index_or known rev null_node) known ≡ true
  pub first_place : (known : List (List ℕ)) (rev : ℕ) → all_different known ≡ true → rev < length known → position (λ n. same n (slice_index_or known rev null_node)) known ≡ Some rev
  pub node : (revisions : List Revision) (rev : ℕ) → IsNode (node_at revisions rev)
  pub count : (r : Repo) → IsRepo r → length (history r.changesets).changelog ≡ length r.changesets
  pub parents : (r : Repo) → IsRepo r → parents_in (history r.changesets).changelog ≡ all_parents r.changesets
  pub changelog_before : (r : Repo) → IsRepo r → ParentsBefore 0 (parents_in (history r.changesets).changelog)
  pub manifest_before : (r : Repo) → IsRepo r → ParentsBefore 0 (parents_in (history r.changesets).manifest)
  pub filelogs_before : (r : Repo) (path : List ℕ) → IsRepo r → ParentsBefore 0 (parents_in ((history r.changesets).filelog path))
  pub entry_nodes : (revisions : List Revision) → nodes_of (entries_of revisions) ≡ nodes revisions
  pub entry_parents : (revisions : List Revision) → history_of (entries_of revisions) ≡ parents_in revisions

-- the names of filelogs' files, and the list of them
pub record NameLaws : Type 0 where
  pub own : (path : List ℕ) (ext : Ext) → among (store_name path ext) own_files ≡ false
  pub kinds : (path other : List ℕ) → same (store_name path I) (store_name other D) ≡ false
  pub tracked : (path : List ℕ) → is_ok (checked path) ≡ is_tracked path
  pub added : (path : List ℕ) (ext : Ext) (text : List ℕ) (names : List (List ℕ)) → checked path ≡ Ok tt → names_of text ≡ Ok names → names_of (text ++ line (listed_name path ext)) ≡ Ok (names ++ listed_name path ext ∷ [])

-- the small files are read as they are written
pub record SmallLaws : Type 0 where
  pub marks_back : (marks : List Mark) → AreBookmarks marks → read_bookmarks (bookmarks_text marks) ≡ Ok marks
  pub lines_back : (marks : List Mark) → AllByRecursion IsMark marks → mark_lines (bookmarks_text marks) ≡ Ok marks
  pub marks_in_order : (text : List ℕ) (marks : List Mark) → read_bookmarks text ≡ Ok marks → AreBookmarks marks
  pub dirstate_back : (d : Dirstate) → IsDirstate d → read_dirstate (dirstate_text d) ≡ Ok d
  pub roots_back : (entries : List Entry) (phases : List Phase) → HaveNodes entries → read_roots (roots_text (written_roots phases entries)) ≡ Ok (written_roots phases entries)
  pub roots_same : (entries : List Entry) (phases : List Phase) → IsChangelog entries → ArePhases entries phases → phases_by (written_roots phases entries) entries ≡ phases
