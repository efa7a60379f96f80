-- What the files of a store have of a changeset.
use Rattle.std.specs.Prelude.{◌≡◌, ℕ, List, Some, slice_get, slice_index_or}
use Rattle.std.specs.List.{AllZip}
use Rattle.hgs_files.specs.Tree.{Tree}
use Rattle.hgs_index.specs.ChangeText.{Change, IsChange, change_text}
use Rattle.hgs_index.specs.Manifest.{Row, AreRows, manifest_text}
use Rattle.hgs_index.specs.Node.{null_node}
use Rattle.hgs_index.specs.Revision.{Revision, nodes}
pub use Rattle.hgs_model.specs.Held.{Tells}
use Rattle.hgs_model.specs.Repo.{Changeset, TreeFile, file_text}
use Rattle.hgs_path.specs.declared.name.Ext.TheVariants.{I, D}
use Rattle.hgs_path.specs.StoreName.{store_name}
use Rattle.hgs_stands.specs.Places.{changelog_index, changelog_data, manifest_index, manifest_data}
use Rattle.hgs_stands.specs.Stands.{HoldsAt}

-- The revlog at these paths has as this revision one with this node and this text.
pub record HasRevision (t : Tree) (index data_path : List ℕ) (rev : ℕ) (node text : List ℕ) : Type 0 where
  pub revisions : List Revision
  pub held : HoldsAt t index data_path revisions
  pub revision : Revision
  pub there : slice_get revisions rev ≡ Some revision
  pub node_is : slice_index_or (nodes revisions) rev null_node ≡ node
  pub text_is : revision.text ≡ text

-- The row has the path and the flag of the file, and the node with which the filelog of this path has the file's text.
pub record IsRowOf (t : Tree) (f : TreeFile) (row : Row) : Type 0 where
  pub path : row.path ≡ f.path
  pub flag : row.flag ≡ f.flag
  pub rev : ℕ
  pub text : HasRevision t (store_name f.path I) (store_name f.path D) rev row.node (file_text f)

-- The changelog has as this revision the changeset's text, with its parents; the manifest has, with the node that this
-- text names, the text of rows that ascend; and there is a row of each file of the changeset, in their order, and no other.
pub record IsCommitted (t : Tree) (rev : ℕ) (node : List ℕ) (c : Changeset) : Type 0 where
  pub change : Change
  pub in_form : IsChange change
  pub tells : Tells change c
  pub changelog : HasRevision t changelog_index changelog_data rev node (change_text change)
  pub parents : changelog.revision.parents ≡ c.parents
  pub rows : List Row
  pub ascend : AreRows rows
  pub manifest_rev : ℕ
  pub manifest : HasRevision t manifest_index manifest_data manifest_rev change.manifest (manifest_text rows)
  pub files : AllZip (IsRowOf t) c.tree rows
