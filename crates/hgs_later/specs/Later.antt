-- Which entries stand in the indexes of a store, by their links.
use Rattle.std.specs.Prelude.{◌≡◌, ℕ, List, [], ◌∷◌, true, false, length}
use Rattle.hgs_bytes.specs.Bytes.{IsPrefixOf, among, same}
use Rattle.hgs_files.specs.Tree.{Tree, bytes_at}
use Rattle.hgs_index.specs.Inline.{index_apart}
use Rattle.hgs_journal.specs.Covers.{is_loose}
use Rattle.hgs_journal.specs.Names.{journal_path}
use Rattle.hgs_links.specs.Fronts.{EndsByLink, IsCutByLinks}
use Rattle.hgs_model.specs.History.{history, uses}
use Rattle.hgs_model.specs.Repo.{Changeset}
use Rattle.hgs_ops.specs.Operations.{strays}
use Rattle.hgs_path.specs.declared.name.Ext.TheVariants.{I}
use Rattle.hgs_path.specs.StoreName.{store_name}
use Rattle.hgs_stands.specs.Places.{bookmarks_path, dirstate_path, manifest_index, roots_path}
use Rattle.hgs_stands.specs.Stands.{HoldsChangesets}

-- In the manifest, and in the filelog of each path that these or later changesets use, the revisions of these changesets stand in front, and exactly they are linked to these changesets. An inline index counts as the entries that it is taken apart into.
pub record AreCutByLinks (t : Tree) (changesets later : List Changeset) : Type 0 where
  pub manifest : IsCutByLinks (index_apart (bytes_at t manifest_index)) (length changesets) (length (history changesets).manifest)
  pub filelogs : (path : List ℕ) → uses later path ≡ true → IsCutByLinks (index_apart (bytes_at t (store_name path I))) (length changesets) (length ((history changesets).filelog path))

-- In this tree the manifest and the filelog of each path that these changesets use begin with what the store has, and an entry that stands whole right behind it is linked to a later changeset.
pub record EndByLinks (t store : Tree) (changesets : List Changeset) : Type 0 where
  pub manifest : EndsByLink (bytes_at store manifest_index) (bytes_at t manifest_index) (length changesets)
  pub filelogs : (path : List ℕ) → uses changesets path ≡ true → EndsByLink (bytes_at store (store_name path I)) (bytes_at t (store_name path I)) (length changesets)

-- A path of a file that transactions only add to, and cut again where they are undone: they append to it, or, an import to the changelog's index, put a longer one in its place.
pub record IsAddedTo (path : List ℕ) : Type 0 where
  pub free : is_loose strays path ≡ false
  pub off : same path journal_path ≡ false
  pub other : among path (roots_path ∷ dirstate_path ∷ bookmarks_path ∷ []) ≡ false

-- What stands at a path is a front of what stands there in a tree that holds these changesets, or these and more.
pub record IsUnder (t : Tree) (path : List ℕ) (changesets : List Changeset) : Type 0 where
  pub all : List Changeset
  pub goes_on : IsPrefixOf changesets all
  pub tree : Tree
  pub holds : HoldsChangesets tree all
  pub under : IsPrefixOf (bytes_at t path) (bytes_at tree path)
