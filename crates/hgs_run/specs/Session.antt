-- What the command that runs a script comes to.
use Rattle.std.specs.Prelude.{◌≡◌, ◌≤◌, ⊤, ℕ, List, Option, Result, Ok, Err, IfSome, IsOk}
use Rattle.hgs_bytes.specs.Answer.{Gives}
use Rattle.hgs_files.specs.declared.op.Op.{Op}
use Rattle.hgs_files.specs.Tree.{Tree}
use Rattle.hgs_input.specs.Read.{is_memory}
use Rattle.hgs_input.specs.declared.fault.InputFault.{InputFault}
use Rattle.hgs_load.specs.Answer.{is_of_outside, refusal_line, status_of}
use Rattle.hgs_load.specs.declared.answer.ReadAnswer.{ReadAnswer}
use Rattle.hgs_loading.specs.Found.{required_in}
use Rattle.hgs_script.specs.Read.{read_script}
use Rattle.hgs_script.specs.Result.{result_text}
use Rattle.hgs_script.specs.declared.job.Job.{Job}
use Rattle.hgs_script.specs.declared.result.SessionResult.{SessionResult}
use Rattle.hgs_script.specs.declared.script.Script.{Script}
use Rattle.hgs_session.specs.Calls.{Beginning, Stage}
use Rattle.hgs_session.specs.Session.{BeginsOver, Comes, EndState}
use Rattle.hgs_session.specs.declared.session.NoResult.{NoResult}
use Rattle.hgs_top.specs.Orders.{ended_status, ended_text}
use Rattle.hgs_top.specs.Run.{EndsLine, OfTree, memory_line}
use Rattle.hgs_top.specs.Words.{Request, to_session}
use Rattle.hgs_top.specs.declared.ended.Ended.{Ended}
use Rattle.hgs_top.specs.declared.ended.Ended.TheVariants.{NoInput, NoRecord}

-- ---- the input

-- the script that the input is, or its first fault, where the input is told
abbrev pub GaveScript : Option (List ℕ) → Result Script InputFault → Type 0
GaveScript left given = IfSome left (λ bytes. Gives is_memory (λ s. s) given (read_script bytes))

-- the input failed, or it is no script
abbrev pub RefusesScript : Option (List ℕ) → Ended → Type 0
RefusesScript left NoInput = ⊤
RefusesScript left (NoRecord fault) = GaveScript left (Err fault)
RefusesScript left ended = ⊥

-- ---- what is left, and what is said

-- files at rest were left as they were
abbrev pub Stays : Option (List Op) → Tree → Option (List Op) → Tree → Type 0
Stays log start new new_start = (new ≡ log) × (new_start ≡ start)

-- the text of a session's result, or that there was no memory for one
abbrev pub TellsSession : Result SessionResult NoResult → ℕ → Option (List ℕ) → Option (List ℕ) → Type 0
TellsSession (Ok result) status old new = EndsLine (result_text result) 0 status old new
TellsSession (Err e) status old new = EndsLine memory_line 30 status old new

-- A session of these jobs began over files with this log and these counts, and what it came to was said; where it has a result, the
-- yard is left whole.
pub record RunsScript (jobs : List (List Job)) (log : Option (List Op)) (start : Tree) (faults denied status : ℕ) (old new : Option (List ℕ)) (Leaves : Stage → Type 0) (Counts : Stage → List EndState → Type 0) (Whole : Type 0) : Type 0 where
  pub first : Beginning
  pub over : BeginsOver first jobs log start faults denied
  pub told : Result SessionResult NoResult
  pub comes : Comes first Leaves Counts told
  pub whole : IsOk told → Whole
  pub tells : TellsSession told status old new

-- The input failed or is no script, which is said, and the files stay. Or the repository is none of the profile, or what it requires
-- could not be read, which is said, and the files stay. Or the script was run, over files whose counts that reading may have raised.
pub data RunsSession (left : Option (List ℕ)) (log : Option (List Op)) (start : Tree) (faults denied status : ℕ) (old new : Option (List ℕ)) (Stay : Type 0) (Leaves : Stage → Type 0) (Counts : Stage → List EndState → Type 0) (Whole : Type 0) : Type 0 where
  no_script : (ended : Ended) → RefusesScript left ended → EndsLine (ended_text ended) (ended_status ended) status old new → Stay → RunsSession left log start faults denied status old new Stay Leaves Counts Whole
  no_profile : (script : Script) (refusal : ReadAnswer) → GaveScript left (Ok script) → OfTree log start (λ t. Gives is_of_outside (λ x. x) (Err refusal) (required_in t)) → EndsLine (refusal_line refusal) (status_of refusal) status old new → Stay
      → RunsSession left log start faults denied status old new Stay Leaves Counts Whole
  ran : (script : Script) (faults_then denied_then : ℕ) → GaveScript left (Ok script) → OfTree log start (λ t. required_in t ≡ Ok tt) → faults ≤ faults_then → denied ≤ denied_then
      → ∥ RunsScript script.workers log start faults_then denied_then status old new Leaves Counts Whole ∥₁ → RunsSession left log start faults denied status old new Stay Leaves Counts Whole

-- ---- a run of any words

-- the tree that the log of the files starts from is the same; of a session its own clause says so, where the log is told
abbrev pub KeepsStart : Result Request ℕ → Tree → Tree → Type 0
KeepsStart (Ok to_session) old new = ⊤
KeepsStart asked old new = new ≡ old

-- the yard is left whole, by a session unless it says that there was no memory
abbrev pub KeepsYard : Result Request ℕ → ℕ → Type 0 → Type 0
KeepsYard (Ok to_session) status Whole = (status ≡ 30 → ⊥) → Whole
KeepsYard asked status Whole = Whole
