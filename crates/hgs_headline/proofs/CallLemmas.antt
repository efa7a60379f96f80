-- What a call adds, of the only answer of its question.
use Rattle.std.specs.Prelude.{ℕ, List, Result, Ok, Some}
use Rattle.hgs_bytes.specs.Bytes.{IsPrefixOf}
use Rattle.hgs_files.specs.declared.op.Op.{Op}
use Rattle.hgs_load.specs.declared.answer.ReadAnswer.{ReadAnswer}
use Rattle.hgs_load.specs.Asks.{AddsAnswer, AddsGiven, Asks}
use Rattle.hgs_load.specs.View.{View}
use Rattle.hgs_model.specs.Repo.{Changeset, Repo}
use Rattle.hgs_reader.specs.Contents.{cat_asks, files_asks}
use Rattle.hgs_reader.specs.Line.{line_asks}
use Rattle.hgs_shown.specs.Answers.{body_answer, body_at, log_line, tree_text}
use Rattle.hgs_views.specs.Answered.{OnlyAnswers}
use Rattle.hgs_views.specs.Course.{Course}
use Rattle.hgs_views.specs.Says.{TellsOf}
use Rattle.hgs_headline.specs.AddsCommitted.{Adds, AddsCommitted}

module _ (law : (x : Course) (first from to last : List Op) (question : Asks (Result (List ℕ) ReadAnswer)) (given : Result (List ℕ) ReadAnswer) (old new : List ℕ) (r : Result Unit ReadAnswer) → OnlyAnswers x first last question given → IsPrefixOf first from → IsPrefixOf to last → AddsAnswer (Some from) x.start (Some to) question old new r → AddsGiven given old new r)
    (x : Course) (first last : List Op) (view : View) (r : Repo) (rev : ℕ) where
  adds : (question : Asks (Result (List ℕ) ReadAnswer)) (given : Result (List ℕ) ReadAnswer) → OnlyAnswers x first last question given → Adds x.start first last question given
  adds question given only from to old new r p q a = law x first from to last question given old new r only p q a

  pub adds-committed : (c : Changeset) → TellsOf x first last view r rev c → AddsCommitted x.start first last view r rev c
  adds-committed c tells = record {
    line = adds (line_asks view rev) (Ok (log_line r rev c)) tells.line;
    files = adds (files_asks view rev) (Ok (tree_text r rev (Some c))) tells.files;
    body = λ path. adds (cat_asks view rev path) (body_answer (body_at r rev path)) (tells.body path);
  }
