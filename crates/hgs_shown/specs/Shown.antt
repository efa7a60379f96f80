-- What a reader is shown of a repository.
use Rattle.std.specs.Prelude.{◌≡◌, ℕ, List, false, Ok, Err, map}
use Rattle.std.specs.List.{AllZip}
use Rattle.hgs_bytes.specs.Bytes.{among}
use Rattle.hgs_files.specs.Tree.{Tree, bytes_at}
use Rattle.hgs_index.specs.ChangeText.{Change}
use Rattle.hgs_index.specs.Either.{chunks_either}
use Rattle.hgs_index.specs.Inline.{index_apart}
use Rattle.hgs_index.specs.Manifest.{Row}
use Rattle.hgs_index.specs.Revision.{parent_node}
use Rattle.hgs_index.specs.Revlog.{BeginsWithRevisions}
use Rattle.hgs_model.specs.History.{history, changeset_nodes}
use Rattle.hgs_model.specs.Phase.{phase_number}
use Rattle.hgs_model.specs.Repo.{Repo, Changeset, TreeFile, tree_paths}
use Rattle.hgs_revlog.specs.Held.{Agrees}
use Rattle.hgs_load.specs.declared.answer.ReadAnswer.TheVariants.{UnknownPath}
use Rattle.hgs_load.specs.Asks.{at_rest}
use Rattle.hgs_reader.specs.Contents.{tree_asks, files_asks, files_text, cat_asks}
use Rattle.hgs_reader.specs.Line.{change_asks}
use Rattle.hgs_load.specs.Marks.{Nodes}
use Rattle.hgs_load.specs.View.{View}
use Rattle.hgs_stands.specs.Committed.{Tells}
use Rattle.hgs_stands.specs.Places.{changelog_index, changelog_data}
use Rattle.hgs_stands.specs.Stands.{mark_of}

-- the index and the chunks of the changelog; of an inline one, those of the separate one that it is taken apart into
abbrev pub index_of_changelog : Tree → List ℕ
index_of_changelog t = index_apart (bytes_at t changelog_index)

abbrev pub chunks_of_changelog : Tree → List ℕ
chunks_of_changelog t = chunks_either (bytes_at t changelog_index) (bytes_at t changelog_data)

-- The view has the index entries of the repository's changesets, its bookmarks, its working parents and its phases.
pub record IsViewOf (view : View) (t : Tree) (r : Repo) : Type 0 where
  pub entries : Agrees (index_of_changelog t) (chunks_of_changelog t) view.changelog.entries (history r.changesets).changelog
  pub bookmarks : view.bookmarks ≡ map (mark_of (changeset_nodes r.changesets)) r.bookmarks
  pub working : view.working ≡ r.working
  pub phases : map phase_number view.phases ≡ r.phases

-- what is shown as one repository: the bookmarks of marked, the working parents of worked, and all else of r
abbrev pub shown_repo : Repo → Repo → Repo → Repo
shown_repo marked worked r = record { changesets = r.changesets; phases = r.phases; bookmarks = marked.bookmarks; working = worked.working }

-- the nodes of the working parents, as a dirstate has them
abbrev pub working_nodes : Repo → Nodes
working_nodes r = (parent_node (changeset_nodes r.changesets) r.working.0, parent_node (changeset_nodes r.changesets) r.working.1)

-- The view has index entries of the changesets of r, the bookmarks of marked, the working parents of worked and the phases of r.
pub record IsViewOver (view : View) (t : Tree) (marked worked r : Repo) : Type 0 where
  pub begins : BeginsWithRevisions (index_of_changelog t) (chunks_of_changelog t) (history r.changesets).changelog
  pub entries : Agrees begins.index_front begins.data_front view.changelog.entries (history r.changesets).changelog
  pub bookmarks : view.bookmarks ≡ map (mark_of (changeset_nodes marked.changesets)) marked.bookmarks
  pub working : view.working ≡ worked.working
  pub phases : map phase_number view.phases ≡ r.phases

-- a row has the path and the flag of this file, and `cat` of its path answers the file's body
pub record IsFileShown (t : Tree) (view : View) (rev : ℕ) (f : TreeFile) (row : Row) : Type 0 where
  pub path : row.path ≡ f.path
  pub flag : row.flag ≡ f.flag
  pub body : at_rest t (cat_asks view rev f.path) ≡ Ok f.body

-- The questions of this view answer, of this revision, what the changeset says, the rows of its files and each body, and
-- of every other path that it is unknown.
pub record IsShown (t : Tree) (view : View) (rev : ℕ) (c : Changeset) : Type 0 where
  pub change : Change
  pub tells : Tells change c
  pub text : at_rest t (change_asks view rev) ≡ Ok change
  pub rows : List Row
  pub tree : at_rest t (tree_asks view rev) ≡ Ok rows
  pub lines : at_rest t (files_asks view rev) ≡ Ok (files_text rows)
  pub files : AllZip (IsFileShown t view rev) c.tree rows
  pub others : (path : List ℕ) → among path (tree_paths c.tree) ≡ false → at_rest t (cat_asks view rev path) ≡ Err UnknownPath
