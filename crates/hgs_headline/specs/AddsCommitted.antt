-- What calls that add a text add of a changeset, while writers are at work.
use Rattle.std.specs.Prelude.{ℕ, List, Result, Ok, Some}
use Rattle.hgs_bytes.specs.Bytes.{IsPrefixOf}
use Rattle.hgs_files.specs.declared.op.Op.{Op}
use Rattle.hgs_files.specs.Tree.{Tree}
use Rattle.hgs_load.specs.declared.answer.ReadAnswer.{ReadAnswer}
use Rattle.hgs_load.specs.Asks.{AddsAnswer, AddsGiven, Asks}
use Rattle.hgs_load.specs.View.{View}
use Rattle.hgs_model.specs.Repo.{Changeset, Repo}
use Rattle.hgs_reader.specs.Contents.{cat_asks, files_asks}
use Rattle.hgs_reader.specs.Line.{line_asks}
use Rattle.hgs_shown.specs.Answers.{body_answer, body_at, log_line, tree_text}

-- A call that was answered between these two lists adds this text or is refused so, unless it met a fault of the files or
-- found no memory.
abbrev pub Adds : Tree → List Op → List Op → Asks (Result (List ℕ) ReadAnswer) → Result (List ℕ) ReadAnswer → Type 0
Adds start first last question given =
    (from to : List Op) (old new : List ℕ) (r : Result Unit ReadAnswer) → IsPrefixOf first from → IsPrefixOf to last → AddsAnswer (Some from) start (Some to) question old new r → AddsGiven given old new r

-- The calls of a view add, of this changeset of the repository, the line of it, the lines of its files, each with the node that was
-- committed, and the body of each; every other path is unknown.
pub record AddsCommitted (start : Tree) (first last : List Op) (view : View) (r : Repo) (rev : ℕ) (c : Changeset) : Type 0 where
  pub line : Adds start first last (line_asks view rev) (Ok (log_line r rev c))
  pub files : Adds start first last (files_asks view rev) (Ok (tree_text r rev (Some c)))
  pub body : (path : List ℕ) → Adds start first last (cat_asks view rev path) (body_answer (body_at r rev path))
