-- What a view says, in the words of the repository that it shows.
use Rattle.std.specs.Prelude.{◌≡◌, ◌<◌, ℕ, List, length, map, Ok, Some, slice_get, slice_index}
use Rattle.hgs_files.specs.declared.op.Op.{Op}
use Rattle.hgs_load.specs.View.{View}
use Rattle.hgs_model.specs.Names.{named as named_in}
use Rattle.hgs_model.specs.Phase.{phase_name, phase_number}
use Rattle.hgs_model.specs.Repo.{Changeset, Repo}
use Rattle.hgs_model.specs.declared.phase.Phase.{Phase}
use Rattle.hgs_reader.specs.Contents.{cat_asks, files_asks}
use Rattle.hgs_reader.specs.Heads as reader_heads
use Rattle.hgs_reader.specs.Line.{line_asks}
use Rattle.hgs_reader.specs.Names.{named}
use Rattle.hgs_reader.specs.Shown as reader_shown
use Rattle.hgs_shown.specs.Answers.{body_answer, body_at, bookmarks_text, heads_text, log_line, parents_text, phase_word, tree_text}
use Rattle.hgs_views.specs.Answered.{OnlyAnswers}
use Rattle.hgs_views.specs.Course.{Course}

-- What is said without a read: how many changesets there are, what names name, the lines of the heads, the bookmarks and the working
-- parents, and the word of each phase.
pub record SaysOf (view : View) (r : Repo) : Type 0 where
  pub count : length view.changelog.entries ≡ length r.changesets
  pub names : (name : List ℕ) → named view name ≡ named_in r name
  pub heads : reader_heads.heads_text view ≡ heads_text r
  pub bookmarks : reader_shown.marks_text view ≡ bookmarks_text r
  pub parents : reader_shown.parents_text view ≡ parents_text r
  pub phases : map phase_number view.phases ≡ r.phases
  pub phase : (rev : ℕ) → rev < length r.changesets → (p : Phase) × (slice_get view.phases rev ≡ Some p) × (phase_name p ≡ phase_word (slice_index r.phases rev))

-- What is read of a changeset, whichever lists between these two the reads come after: its line, the lines of its files, each with
-- the node that was committed, and the body of each; every other path is unknown; and nothing else.
pub record TellsOf (x : Course) (first last : List Op) (view : View) (r : Repo) (rev : ℕ) (c : Changeset) : Type 0 where
  pub line : OnlyAnswers x first last (line_asks view rev) (Ok (log_line r rev c))
  pub files : OnlyAnswers x first last (files_asks view rev) (Ok (tree_text r rev (Some c)))
  pub body : (path : List ℕ) → OnlyAnswers x first last (cat_asks view rev path) (body_answer (body_at r rev path))
