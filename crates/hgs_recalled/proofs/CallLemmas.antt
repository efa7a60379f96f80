-- What a call beside kept texts adds, of the only answer of the question without them.
use Rattle.std.specs.Prelude.{ℕ, List, Some, Result, Ok}
use Rattle.hgs_bytes.specs.Bytes.{IsPrefixOf}
use Rattle.hgs_files.specs.declared.op.Op.{Op}
use Rattle.hgs_model.specs.Repo.{Changeset, Repo}
use Rattle.hgs_load.specs.declared.answer.ReadAnswer.{ReadAnswer}
use Rattle.hgs_load.specs.Asks.{AddsAnswer, AddsGiven, Asks}
use Rattle.hgs_load.specs.View.{View}
use Rattle.hgs_shown.specs.Answers.{body_answer, body_at, tree_text}
use Rattle.hgs_headline.specs.AddsCommitted.{Adds}
use Rattle.hgs_recent.specs.Questions.{cat_asks, files_asks}
use Rattle.hgs_recent.specs.Texts.{Texts}
use Rattle.hgs_views.specs.Answered.{OnlyAnswers}
use Rattle.hgs_views.specs.Course.{Course}
use Rattle.hgs_views.specs.Says.{TellsOf}
use Rattle.hgs_recalled.specs.Recalled.{AnswerAlike, AddsBeside}

module _ (law : (x : Course) (first last from to : List Op) (question : Asks (Result (List ℕ) ReadAnswer)) (given : Result (List ℕ) ReadAnswer) (old new : List ℕ) (r : Result Unit ReadAnswer) → OnlyAnswers x first last question given → IsPrefixOf first from → IsPrefixOf to last → AddsAnswer (Some from) x.start (Some to) question old new r → AddsGiven given old new r)
    (x : Course) (first last : List Op) (texts : Texts) (view : View) (r : Repo) (rev : ℕ) (alike : AnswerAlike x first last texts view rev) where
  adds : (question : Asks (Result (List ℕ) ReadAnswer)) (given : Result (List ℕ) ReadAnswer) → OnlyAnswers x first last question given → Adds x.start first last question given
  adds question given only from to old new r p q a = law x first last from to question given old new r only p q a

  pub adds-beside : (c : Changeset) → TellsOf x first last view r rev c → AddsBeside x.start first last texts view r rev c
  adds-beside c tells = record {
    files = adds (files_asks texts view rev) (Ok (tree_text r rev (Some c))) (alike.files (Ok (tree_text r rev (Some c))) tells.files);
    body = λ path. adds (cat_asks texts view rev path) (body_answer (body_at r rev path)) (alike.cat path (body_answer (body_at r rev path)) (tells.body path));
  }
