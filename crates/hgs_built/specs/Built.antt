-- A tree of files that stands for a repository: each text whole in its chunk, each filelog listed.
use Rattle.std.specs.Prelude.{ℕ, zero, suc, List, [], ◌∷◌, false, map, flat_map, Option, Some, None, if◌then◌else◌}
use Rattle.std.specs.List.{concat}
use Rattle.hgs_bytes.specs.Bytes.{same}
use Rattle.hgs_bytes.specs.Text.{lines}
use Rattle.hgs_files.specs.Tree.{Tree}
use Rattle.hgs_index.specs.declared.entry.Header.{Header}
use Rattle.hgs_index.specs.Revision.{Revision, parent_node}
use Rattle.hgs_index.specs.Revlog.{Stored, chunk_of, index_bytes, items}
use Rattle.hgs_marks.specs.Bookmarks.{bookmarks_text}
use Rattle.hgs_marks.specs.Dirstate.{Dirstate, dirstate_text}
use Rattle.hgs_model.specs.History.{changeset_nodes, history, in_order}
use Rattle.hgs_model.specs.Repo.{Changeset, Repo, tracked_paths, tree_paths}
use Rattle.hgs_model.specs.declared.phase.Phase.{Phase}
use Rattle.hgs_model.specs.declared.phase.Phase.TheVariants.{Public, Draft, Secret}
use Rattle.hgs_path.specs.declared.name.Ext.TheVariants.{I, D}
use Rattle.hgs_path.specs.StoreName.{listed_name, store_name}
use Rattle.hgs_phases.specs.Printed.{written_roots}
use Rattle.hgs_phases.specs.Roots.{roots_text}
use Rattle.hgs_stands.specs.Places.{requires_path, bookmarks_path, dirstate_path, roots_path, fncache_path, changelog_index, changelog_data, manifest_index, manifest_data}
use Rattle.hgs_stands.specs.Requires.{needed}
use Rattle.hgs_stands.specs.Stands.{changeset_entries, mark_of}

-- ---- a revlog

-- chunks in a file of their own, and no deltas
abbrev pub own_header : Header
own_header = record { inline = false; generaldelta = false }

-- the revisions, each with the chunk of its whole text
abbrev pub stored_whole : List Revision → List Stored
stored_whole revisions = map (λ r. record { revision = r; chunk = chunk_of r.text }) revisions

-- the bytes of the index and of the data file
abbrev pub index_of : List Revision → List ℕ
index_of revisions = index_bytes own_header (items (stored_whole revisions))

abbrev pub data_of : List Revision → List ℕ
data_of revisions = concat (map (λ s. s.chunk) (stored_whole revisions))

-- ---- the filelogs, and the list of them

-- the paths that the changesets use, in path order, each once
abbrev pub used_paths : List Changeset → List (List ℕ)
used_paths changesets = in_order (flat_map (λ c. tree_paths c.tree) changesets)

-- both names of each path
abbrev pub both_names : List (List ℕ) → List (List ℕ)
both_names paths = flat_map (λ path. listed_name path I ∷ listed_name path D ∷ []) paths

-- what stands at a place: the index or the data file of the first path whose name it is
abbrev pub filelog_file : (List ℕ → List Revision) → List (List ℕ) → List ℕ → Option (List ℕ)
filelog_file logs [] place = None
filelog_file logs (path ∷ paths) place =
    if same (store_name path I) place then Some (index_of (logs path))
    else if same (store_name path D) place then Some (data_of (logs path))
    else filelog_file logs paths place

-- ---- the small files

-- the phase of a number
abbrev pub phase_of : ℕ → Phase
phase_of zero = Public
phase_of (suc zero) = Draft
phase_of (suc (suc n)) = Secret

abbrev pub roots_of : Repo → List ℕ
roots_of r = roots_text (written_roots (map phase_of r.phases) (changeset_entries r.changesets))

abbrev pub bookmarks_of : Repo → List ℕ
bookmarks_of r = bookmarks_text (map (mark_of (changeset_nodes r.changesets)) r.bookmarks)

-- the nodes of the working parents, and the tracked paths
abbrev pub dirstate_in : Repo → Dirstate
dirstate_in r = record {
  p1 = parent_node (changeset_nodes r.changesets) r.working.0;
  p2 = parent_node (changeset_nodes r.changesets) r.working.1;
  paths = tracked_paths r;
}

-- ---- the whole

-- the files that are no filelog's
abbrev pub own_files_of : Repo → List (List ℕ × List ℕ)
own_files_of r =
    (requires_path, lines needed)
    ∷ (bookmarks_path, bookmarks_of r)
    ∷ (dirstate_path, dirstate_text (dirstate_in r))
    ∷ (roots_path, roots_of r)
    ∷ (fncache_path, lines (both_names (used_paths r.changesets)))
    ∷ (changelog_index, index_of (history r.changesets).changelog)
    ∷ (changelog_data, data_of (history r.changesets).changelog)
    ∷ (manifest_index, index_of (history r.changesets).manifest)
    ∷ (manifest_data, data_of (history r.changesets).manifest)
    ∷ []

-- the file of a list at a place, else what stands there beside them
abbrev pub file_or : List (List ℕ × List ℕ) → Option (List ℕ) → List ℕ → Option (List ℕ)
file_or [] other place = other
file_or (f ∷ files) other place = if same f.0 place then Some f.1 else file_or files other place

-- Nothing but these files and those of filelogs stands: no lock and no journal.
abbrev pub tree_of : Repo → Tree
tree_of r place = file_or (own_files_of r) (filelog_file (history r.changesets).filelog (used_paths r.changesets) place) place
