-- How one question of a session was answered over files that others may change meanwhile.
use Rattle.std.specs.Prelude.{◌≡◌, ℕ, List, Option, Some, Ok, Err, false}
use Rattle.hgs_files.specs.Reads.{Grows, Rose}
use Rattle.hgs_files.specs.Tree.{Tree}
use Rattle.hgs_files.specs.declared.op.Op.{Op}
use Rattle.hgs_load.specs.Answer.{is_of_outside}
use Rattle.hgs_load.specs.Asks.{MayAnswerWhereTold}
use Rattle.hgs_load.specs.Beyond.{MayAnswerBeyond}
use Rattle.hgs_load.specs.View.{View}
use Rattle.hgs_load.specs.declared.answer.ReadAnswer.{ReadAnswer}
use Rattle.hgs_load.specs.declared.answer.ReadAnswer.TheVariants.{Fault}
use Rattle.hgs_script.specs.declared.job.Question.{Question}
use Rattle.hgs_script.specs.declared.result.Answered.{Answered}
use Rattle.hgs_questions.specs.Questions.{front_asks, load_asks, question_asks}
use Rattle.hgs_questions.specs.Said.{behind, lost, refused, said}

-- How a session answered a question of its view, while the list that it looked at grew from `before` to `after`.
pub data Tells (before : Option (List Op)) (start : Tree) (after : Option (List Op)) (view : View) (question : Question) (faults_old faults_new : ℕ) (answered : Answered) : Type 0 where
  -- what the question asks and says
  whole : MayAnswerWhereTold before start after (question_asks view question) answered → Tells before start after view question faults_old faults_new answered
  -- a fault of the files, which they counted, behind what was said before
  cut : (count : ℕ) (text : List ℕ) → MayAnswerWhereTold before start after (front_asks view question count) (said text) → Rose faults_old faults_new → answered ≡ behind text (refused Fault) → Tells before start after view question faults_old faults_new answered
  -- there was no memory
  untold : answered ≡ lost → Tells before start after view question faults_old faults_new answered

-- the same without a read, whatever was seen
abbrev pub TellsAtOnce : View → Question → Answered → Type 0
TellsAtOnce view question answered = (seen : Option (List Op)) (start : Tree) (faults : ℕ) → Tells seen start seen view question faults faults answered

-- A load came to this view: beyond what was told, its question may be answered so.
pub record LoadsTo (told : List (List Op)) (before : Option (List Op)) (start : Tree) (mid : Option (List Op)) (old : Option View) (view : View) : Type 0 where
  pub grown : Grows before mid
  pub answer : MayAnswerBeyond told before start mid (load_asks old) (Ok view)

-- How a call that loads first answered a question. `old` and `new` are the views of the session, none before the first load.
pub data Asked (told : List (List Op)) (before : Option (List Op)) (start : Tree) (after : Option (List Op)) (old new : Option View) (question : Question) (faults_old faults_new : ℕ) (answered : Answered) : Type 0 where
  -- the load came to a view, and the question was answered of it
  loaded : (view : View) (mid : Option (List Op)) → LoadsTo told before start mid old view → Grows mid after → new ≡ Some view → Tells mid start after view question faults_old faults_new answered → Asked told before start after old new question faults_old faults_new answered
  -- the load was refused
  unloaded : (e : ReadAnswer) → is_of_outside e ≡ false → MayAnswerBeyond told before start after (load_asks old) (Err e) → new ≡ old → answered ≡ refused e → Asked told before start after old new question faults_old faults_new answered
  -- the load met a fault of the files, which they counted
  broken : Rose faults_old faults_new → new ≡ old → answered ≡ refused Fault → Asked told before start after old new question faults_old faults_new answered
  -- there was no memory
  forgone : new ≡ old → answered ≡ lost → Asked told before start after old new question faults_old faults_new answered
