-- Which repository a tree of files stands for.
use Rattle.std.specs.Prelude.{◌≡◌, ◌⊎◌, ◌||◌, ℕ, List, [], Bool, true, false, not, map, None, Ok, slice_index_or}
use Rattle.std.specs.List.{AllByRecursion, list_all}
use Rattle.hgs_bytes.specs.Bytes.{among}
use Rattle.hgs_files.specs.Tree.{Tree, bytes_at}
use Rattle.hgs_index.specs.declared.entry.Entry.{Entry}
use Rattle.hgs_index.specs.Either.{HoldsEither}
use Rattle.hgs_index.specs.Inline.{is_inline}
use Rattle.hgs_index.specs.Node.{null_node}
use Rattle.hgs_index.specs.Revision.{Revision, parent_node}
use Rattle.hgs_index.specs.Revlog.{chunk_of, items}
use Rattle.hgs_journal.specs.Names.{journal_path, locks}
use Rattle.hgs_marks.specs.Bookmarks.{Mark, mark_lines, with_marks}
use Rattle.hgs_marks.specs.Dirstate.{Dirstate, read_dirstate}
use Rattle.hgs_model.specs.History.{history, uses, changeset_nodes}
use Rattle.hgs_model.specs.IsRepo.{IsRepo}
use Rattle.hgs_model.specs.Phase.{phase_number}
use Rattle.hgs_model.specs.Repo.{Changeset, Bookmark, Repo, tracked_paths}
use Rattle.hgs_path.specs.declared.name.Ext.{Ext}
use Rattle.hgs_path.specs.declared.name.Ext.TheVariants.{I, D}
use Rattle.hgs_path.specs.Fncache.{clashes, lists}
use Rattle.hgs_path.specs.ListedNames.{names_of}
pub use Rattle.hgs_path.specs.ListedNames.{listed_file}
use Rattle.hgs_path.specs.StoreName.{listed_name, store_name}
use Rattle.hgs_phases.specs.declared.roots.Root.{Root}
use Rattle.hgs_phases.specs.Phases.{phases_by}
use Rattle.hgs_phases.specs.Roots.{read_roots}
use Rattle.hgs_stands.specs.Places.{bookmarks_path, dirstate_path, roots_path, fncache_path, changelog_index, changelog_data, manifest_index, manifest_data}
use Rattle.hgs_stands.specs.Requires.{IsInProfile}

-- ---- revlogs

-- The two files at these paths hold these revisions and nothing else, in the form that the index says; an absent file counts
-- as an empty one. Of a data file beside an inline index nothing is said.
abbrev pub HoldsAt : Tree → List ℕ → List ℕ → List Revision → Type 0
HoldsAt t index data_path revisions = HoldsEither (bytes_at t index) (bytes_at t data_path) revisions

-- Changelog, manifest and the filelog of each used path hold exactly the revisions of these changesets, and the files of
-- used paths have different names.
pub record HoldsChangesets (t : Tree) (changesets : List Changeset) : Type 0 where
  pub changelog : HoldsAt t changelog_index changelog_data (history changesets).changelog
  pub manifest : HoldsAt t manifest_index manifest_data (history changesets).manifest
  pub filelogs : (path : List ℕ) → uses changesets path ≡ true → HoldsAt t (store_name path I) (store_name path D) ((history changesets).filelog path)
  pub names : (path other : List ℕ) → uses changesets path ≡ true → uses changesets other ≡ true → clashes path other ≡ false

-- whether the changelog or the manifest is inline: no writer appends to them then
abbrev pub has_inline_log : Tree → Bool
has_inline_log t = is_inline (bytes_at t changelog_index) || is_inline (bytes_at t manifest_index)

-- ---- the list of filelogs

-- a name whose file has no bytes, or the name of a used path's file
abbrev pub IsUsedName : Tree → List Changeset → List ℕ → Type 0
IsUsedName t changesets name =
    (bytes_at t (listed_file name) ≡ [])
    ⊎ ((path : List ℕ) × (ext : Ext) × (uses changesets path ≡ true) × (listed_name path ext ≡ name))

-- whether a filelog has this file: one that is inline has no data file
abbrev pub has_file : Tree → List ℕ → Ext → Bool
has_file t path I = true
has_file t path D = not (is_inline (bytes_at t (store_name path I)))

-- The files of each used path's filelog are listed, and a listed file that has bytes is a used path's.
pub record ListsFilelogs (t : Tree) (changesets : List Changeset) : Type 0 where
  pub names : List (List ℕ)
  pub text : names_of (bytes_at t fncache_path) ≡ Ok names
  pub listed : (path : List ℕ) (ext : Ext) → uses changesets path ≡ true → has_file t path ext ≡ true → lists names path ext ≡ true
  pub used : AllByRecursion (IsUsedName t changesets) names

-- ---- phases, bookmarks and working parents

-- the index entries that are written of revisions
abbrev pub entries_of : List Revision → List Entry
entries_of revisions = map (λ i. i.entry) (items (map (λ r. record { revision = r; chunk = chunk_of r.text }) revisions))

-- the index entries of the changesets
abbrev pub changeset_entries : List Changeset → List Entry
changeset_entries changesets = entries_of (history changesets).changelog

-- The phase roots are of changesets that there are, and give the phases.
pub record HasPhases (t : Tree) (r : Repo) : Type 0 where
  pub roots : List Root
  pub text : read_roots (bytes_at t roots_path) ≡ Ok roots
  pub known : list_all (λ (root : Root). among root.node.0 (changeset_nodes r.changesets)) roots ≡ true
  pub phases : map phase_number (phases_by roots (changeset_entries r.changesets)) ≡ r.phases

-- a bookmark as its line has it: with the node of its changeset
abbrev pub mark_of : List (List ℕ) → Bookmark → Mark
mark_of known b = record { name = b.name; node = slice_index_or known b.rev null_node }

-- The lines of the bookmarks are of changesets that there are, overridden ones too, and give the bookmarks.
pub record HasBookmarks (t : Tree) (r : Repo) : Type 0 where
  pub lines : List Mark
  pub text : mark_lines (bytes_at t bookmarks_path) ≡ Ok lines
  pub known : list_all (λ (m : Mark). among m.node (changeset_nodes r.changesets)) lines ≡ true
  pub marks : with_marks [] lines ≡ map (mark_of (changeset_nodes r.changesets)) r.bookmarks

-- The dirstate has the nodes of the working parents, and tracks the paths of the first one's tree, in any order.
pub record HasDirstate (t : Tree) (r : Repo) : Type 0 where
  pub dirstate : Dirstate
  pub text : read_dirstate (bytes_at t dirstate_path) ≡ Ok dirstate
  pub first : dirstate.p1 ≡ parent_node (changeset_nodes r.changesets) r.working.0
  pub second : dirstate.p2 ≡ parent_node (changeset_nodes r.changesets) r.working.1
  pub paths : (path : List ℕ) → among path dirstate.paths ≡ among path (tracked_paths r)

-- ---- the whole

-- The tree stands for the repository: it is one, the files are of the profile, the revlogs hold its changesets and the
-- list names their files, its phases, bookmarks and working parents are those of the files, and no transaction is open.
pub record Stands (t : Tree) (r : Repo) : Type 0 where
  pub repository : IsRepo r
  pub requires : IsInProfile t
  pub revlogs : HoldsChangesets t r.changesets
  pub fncache : ListsFilelogs t r.changesets
  pub phases : HasPhases t r
  pub bookmarks : HasBookmarks t r
  pub dirstate : HasDirstate t r
  pub no_journal : t journal_path ≡ None

-- besides neither lock stands
pub record IsClean (t : Tree) (r : Repo) : Type 0 where
  pub stands : Stands t r
  pub no_locks : AllByRecursion (λ lock. t lock ≡ None) locks
