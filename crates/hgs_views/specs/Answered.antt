-- What a view's questions answer while writers are at work.
use Rattle.std.specs.Prelude.{◌≡◌, ℕ, List, false, Ok, Err, Some, slice_get, take}
use Rattle.std.specs.List.{AllZip}
use Rattle.hgs_bytes.specs.Bytes.{IsPrefixOf, among}
use Rattle.hgs_files.specs.declared.op.Op.{Op}
use Rattle.hgs_index.specs.declared.entry.Entry.{Entry}
use Rattle.hgs_index.specs.ChangeText.{Change}
use Rattle.hgs_index.specs.Manifest.{Row}
use Rattle.hgs_model.specs.Held.{IsPlacedIn}
use Rattle.hgs_model.specs.History.{changeset_nodes, history, rows_of}
use Rattle.hgs_model.specs.Repo.{Changeset, TreeFile, tree_paths}
use Rattle.hgs_load.specs.declared.answer.ReadAnswer.TheVariants.{UnknownPath}
use Rattle.hgs_load.specs.Asks.{Asks, MayAnswer}
use Rattle.hgs_reader.specs.Contents.{tree_asks, files_asks, files_text, cat_asks}
use Rattle.hgs_reader.specs.Line.{change_asks, line_asks, line_text}
use Rattle.hgs_load.specs.View.{View}
use Rattle.hgs_stands.specs.Committed.{Tells}
use Rattle.hgs_views.specs.Course.{Course}

-- Whichever lists between these two the reads come after, the question has no other answer.
abbrev pub OnlyAnswers : {A : Type 0} → Course → List Op → List Op → Asks A → A → Type 0
OnlyAnswers x first last question answered = (from to : List Op) (y : _) → IsPrefixOf first from → IsPrefixOf to last → MayAnswer x.start from question to y → y ≡ answered

-- A row has the path and the flag of this file, and the node of a revision of its filelog that has the file's text; and
-- `cat` of its path answers the file's body.
pub record IsFileAnswered (x : Course) (first last : List Op) (view : View) (changesets : List Changeset) (rev : ℕ) (f : TreeFile) (row : Row) : Type 0 where
  pub path : row.path ≡ f.path
  pub flag : row.flag ≡ f.flag
  pub placed : IsPlacedIn (history changesets).filelog f row
  pub body : OnlyAnswers x first last (cat_asks view rev f.path) (Ok f.body)

-- The questions of this view of these changesets answer, of this revision, what the changeset says, the rows that its files have behind
-- the changesets before it, and each body, and of every other path that it is unknown, and nothing else.
pub record IsAnswered (x : Course) (first last : List Op) (view : View) (changesets : List Changeset) (rev : ℕ) (c : Changeset) : Type 0 where
  pub change : Change
  pub tells : Tells change c
  pub text : OnlyAnswers x first last (change_asks view rev) (Ok change)
  pub entry : Entry
  pub there : slice_get view.changelog.entries rev ≡ Some entry
  pub node : slice_get (changeset_nodes changesets) rev ≡ Some entry.node.0
  pub parents : (entry.p1, entry.p2) ≡ c.parents
  pub line : OnlyAnswers x first last (line_asks view rev) (Ok (line_text rev entry change))
  pub rows : List Row
  pub rows_are : rows ≡ rows_of (history (take rev changesets)) c
  pub tree : OnlyAnswers x first last (tree_asks view rev) (Ok rows)
  pub lines : OnlyAnswers x first last (files_asks view rev) (Ok (files_text rows))
  pub files : AllZip (IsFileAnswered x first last view changesets rev) c.tree rows
  pub others : (path : List ℕ) → among path (tree_paths c.tree) ≡ false → OnlyAnswers x first last (cat_asks view rev path) (Err UnknownPath)
