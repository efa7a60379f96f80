-- What the revisions of a history say of a changeset.
use Rattle.std.specs.Prelude.{◌≡◌, ◌<◌, ℕ, List, length, Some, slice_get}
use Rattle.std.specs.List.{AllByRecursion, AllZip}
use Rattle.hgs_index.specs.ChangeText.{Change, IsChange, change_text}
use Rattle.hgs_index.specs.FileText.{unpacked}
use Rattle.hgs_index.specs.Manifest.{Row, AreRows, manifest_text}
use Rattle.hgs_index.specs.Revision.{Revision}
use Rattle.hgs_model.specs.History.{History, node_at, rows_of, text_at}
use Rattle.hgs_model.specs.Repo.{TreeFile, Changeset, file_text}

-- the text says who made the changeset, when, and what it is about
pub record Tells (change : Change) (c : Changeset) : Type 0 where
  pub user : change.user ≡ c.user
  pub seconds : change.seconds ≡ c.seconds
  pub offset : change.offset ≡ c.offset
  pub extras : change.extras ≡ c.extras
  pub description : change.description ≡ c.description

-- The row of a file names, in the filelog of its path, a revision that has the file's text.
pub record IsPlacedIn (logs : List ℕ → List Revision) (f : TreeFile) (row : Row) : Type 0 where
  pub rev : ℕ
  pub below : rev < length (logs f.path)
  pub text : text_at (logs f.path) rev ≡ file_text f
  pub row_is : row ≡ record { path = f.path; node = node_at (logs f.path) rev; flag = f.flag }

-- The changelog has as this revision the changeset's text, with its parents; the manifest has with the node that it
-- names the text of rows; and the rows name its files. They are those that the changeset has behind the history before it.
pub record IsHeld (before h : History) (rev : ℕ) (c : Changeset) : Type 0 where
  pub change : Change
  pub in_form : IsChange change
  pub tells : Tells change c
  pub revision : Revision
  pub there : slice_get h.changelog rev ≡ Some revision
  pub text_is : revision.text ≡ change_text change
  pub parents_are : revision.parents ≡ c.parents
  pub rows : List Row
  pub rows_are : rows ≡ rows_of before c
  pub ascend : AreRows rows
  pub manifest_rev : ℕ
  pub below : manifest_rev < length h.manifest
  pub manifest_text_is : text_at h.manifest manifest_rev ≡ manifest_text rows
  pub node_is : change.manifest ≡ node_at h.manifest manifest_rev
  pub files : AllZip (IsPlacedIn h.filelog) c.tree rows
  pub unpacks : AllByRecursion (λ (f : TreeFile). unpacked (file_text f) ≡ (f.prefix, f.body)) c.tree
