-- Texts that a session keeps while writers are at work.
use Rattle.std.specs.Prelude.{◌≡◌, ℕ, List, [], Some, Result, Ok, slice_get}
use Rattle.std.specs.List.{AllByRecursion}
use Rattle.hgs_bytes.specs.Bytes.{IsPrefixOf}
use Rattle.hgs_files.specs.declared.op.Op.{Op}
use Rattle.hgs_files.specs.Tree.{Tree}
use Rattle.hgs_model.specs.Repo.{Changeset, Repo}
use Rattle.hgs_load.specs.declared.answer.ReadAnswer.{ReadAnswer}
use Rattle.hgs_load.specs.Asks.{MayAnswer}
use Rattle.hgs_load.specs.View.{View}
use Rattle.hgs_reader.specs.Contents as plain
use Rattle.hgs_recent.specs.Questions.{changeset_use_asks, files_asks, cat_asks}
use Rattle.hgs_recent.specs.Texts.{Texts}
use Rattle.hgs_shown.specs.Answers.{body_answer, body_at, tree_text}
use Rattle.hgs_headline.specs.AddsCommitted.{Adds}
use Rattle.hgs_views.specs.Answered.{OnlyAnswers}
use Rattle.hgs_views.specs.Course.{Course}
use Rattle.hgs_views.specs.Seen.{IsLoadedBetween, Numbers}

-- Between these two lists a view was loaded, and then this text was read for one of its changesets, as that of its manifest
-- with this node.
pub record WasRead (x : Course) (first last : List Op) (kept : List ℕ × List ℕ) : Type 0 where
  pub began : List Op
  pub ended : List Op
  pub numbers : Numbers
  pub view : View
  pub loaded : IsLoadedBetween x began ended numbers view
  pub rev : ℕ
  pub changeset : Changeset
  pub there : slice_get (x.repo numbers.read).changesets rev ≡ Some changeset
  pub from : List Op
  pub to : List Op
  pub from_first : IsPrefixOf first began
  pub then_read : IsPrefixOf ended from
  pub to_last : IsPrefixOf to last
  pub read : MayAnswer x.start from (changeset_use_asks [] view rev) to (Ok (Some kept))

abbrev pub WereRead : Course → List Op → List Op → Texts → Type 0
WereRead x first last texts = AllByRecursion (WasRead x first last) texts

-- Where the question of a session that keeps nothing has one answer, the one beside these texts has no other.
pub record AnswerAlike (x : Course) (first last : List Op) (texts : Texts) (view : View) (rev : ℕ) : Type 0 where
  pub files : (answered : Result (List ℕ) ReadAnswer) → OnlyAnswers x first last (plain.files_asks view rev) answered → OnlyAnswers x first last (files_asks texts view rev) answered
  pub cat : (path : List ℕ) (answered : Result (List ℕ) ReadAnswer) → OnlyAnswers x first last (plain.cat_asks view rev path) answered → OnlyAnswers x first last (cat_asks texts view rev path) answered

-- The calls of a session that keeps these texts add, of this changeset of the repository, the lines of its files, each with the node
-- that was committed, and the body of each; every other path is unknown.
pub record AddsBeside (start : Tree) (first last : List Op) (texts : Texts) (view : View) (r : Repo) (rev : ℕ) (c : Changeset) : Type 0 where
  pub files : Adds start first last (files_asks texts view rev) (Ok (tree_text r rev (Some c)))
  pub body : (path : List ℕ) → Adds start first last (cat_asks texts view rev path) (body_answer (body_at r rev path))
