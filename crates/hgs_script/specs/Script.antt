-- The bytes that are a script.
use Rattle.std.specs.Prelude.{◌≡◌, ◌≤◌, ◌<◌, ◌⊎◌, ⊤, ℕ, zero, suc, List, [], ◌∷◌, ◌++◌, length, Some, codes, decimal, map, ◌==◌, if◌then◌else◌}
use Rattle.std.specs.List.{AllByRecursion, concat}
use Rattle.hgs_bytes.specs.Text.{Lacks, line}
use Rattle.hgs_model.specs.declared.command.NewChange.{NewChange}
use Rattle.hgs_model.specs.declared.command.Command.{Command}
use Rattle.hgs_model.specs.declared.command.Command.TheVariants.{Commit, Import, Move, Mark, Unmark}
use Rattle.hgs_model.specs.Phase.{phase_name}
use Rattle.hgs_model.specs.Valid.{IsNewChange, IsValid}
use Rattle.hgs_input.specs.Record.{Wording, most_input, record_text}
use Rattle.hgs_input.specs.Read.{number_up_to}
use Rattle.hgs_schedule.specs.Schedule.{IsWord, HasWords, force_text}
use Rattle.hgs_script.specs.declared.job.Job.{Job}
use Rattle.hgs_script.specs.declared.job.Job.TheVariants.{Change, Ask}
use Rattle.hgs_script.specs.declared.job.Question.{Question}
use Rattle.hgs_script.specs.declared.job.Question.TheVariants.{Phase, Log, Heads, Bookmarks, Parents, Files, Cat}
use Rattle.hgs_script.specs.declared.script.Script.{Script}
use Rattle.hgs_script.specs.Read.{most_workers, most_jobs, Task, workers_of, job_of}

-- ---- whose the jobs are

-- the jobs of a worker, in order
abbrev pub jobs_of : ℕ → List Task → List Job
jobs_of worker [] = []
jobs_of worker (task ∷ tasks) = if task.0 == worker then task.1 ∷ jobs_of worker tasks else jobs_of worker tasks

-- the jobs of each of so many workers, from the one of this number on
abbrev pub jobs_of_each : ℕ → ℕ → List Task → List (List Job)
jobs_of_each first zero tasks = []
jobs_of_each first (suc n) tasks = jobs_of first tasks ∷ jobs_of_each (suc first) n tasks

-- no worker has more jobs than one may have
abbrev pub HaveRoom : List Task → Type 0
HaveRoom tasks = (worker : ℕ) → length (jobs_of worker tasks) ≤ most_jobs

-- ---- the grammar

-- the word is the number of one of so many workers
pub record IsWorker (workers : ℕ) (word : List ℕ) (worker : ℕ) : Type 0 where
  pub plain : IsWord word
  pub number : number_up_to most_workers word ≡ Some worker
  pub there : worker < workers

-- the text is a line that says this job
pub record IsLineOf (workers : ℕ) (text : List ℕ) (task : Task) : Type 0 where
  pub word : List ℕ
  pub said : List ℕ
  pub is : text ≡ line (word ++ 32 ∷ said)
  pub worker : IsWorker workers word task.0
  pub lacks : Lacks 10 said
  pub says : job_of said ≡ Some task.1

-- the text is a line and a record, whose changeset the job commits
pub record IsCommitOf (workers : ℕ) (text : List ℕ) (task : Task) : Type 0 where
  pub word : List ℕ
  pub says : Wording
  pub change : NewChange
  pub is : text ≡ line (word ++ 32 ∷ codes "commit") ++ record_text says change
  pub worker : IsWorker workers word task.0
  pub valid : IsNewChange change
  pub commits : Change (Commit change) ≡ task.1

abbrev pub IsTaskText : ℕ → List ℕ → Task → Type 0
IsTaskText workers text task = IsLineOf workers text task ⊎ IsCommitOf workers text task

-- each text is that of one job, in order
abbrev pub AreTaskTexts : ℕ → List (List ℕ) → List Task → Type 0
AreTaskTexts workers [] [] = ⊤
AreTaskTexts workers [] (task ∷ tasks) = ⊥
AreTaskTexts workers (text ∷ texts) [] = ⊥
AreTaskTexts workers (text ∷ texts) (task ∷ tasks) = IsTaskText workers text task × AreTaskTexts workers texts tasks

-- the bytes are a script: the line of its workers, the texts of their jobs, its last line, and no more than an input may have
pub record IsScript (bytes : List ℕ) (s : Script) : Type 0 where
  pub first : List ℕ
  pub texts : List (List ℕ)
  pub count : ℕ
  pub tasks : List Task
  pub is : bytes ≡ line first ++ (concat texts ++ line (codes "end session"))
  pub lacks : Lacks 10 first
  pub counted : workers_of first ≡ Some count
  pub are : AreTaskTexts count texts tasks
  pub room : HaveRoom tasks
  pub workers : s.workers ≡ jobs_of_each 0 count tasks
  pub size : length bytes ≤ most_input

-- ---- what a session can run

-- no job is an import
abbrev pub IsJob : Command → Type 0
IsJob (Commit change) = ⊤
IsJob (Import changes) = ⊥
IsJob (Move rev phase force) = ⊤
IsJob (Mark name rev) = ⊤
IsJob (Unmark name) = ⊤

-- the command of a job that writes is one that can be given to a worker
abbrev pub CanBeDone : Job → Type 0
CanBeDone (Change command) = IsValid command × IsJob command
CanBeDone (Ask question) = ⊤

pub record IsShare (jobs : List Job) : Type 0 where
  pub most : length jobs ≤ most_jobs
  pub each : AllByRecursion CanBeDone jobs

-- 1 to 64 workers, each with no more jobs than one may have, all of which can be done
pub record CanBeRun (s : Script) : Type 0 where
  pub least : 1 ≤ length s.workers
  pub most : length s.workers ≤ most_workers
  pub shares : AllByRecursion IsShare s.workers

-- ---- how a script is written

-- an import has none
abbrev pub change_line : Command → List ℕ
change_line (Commit change) = codes "commit"
change_line (Import changes) = []
change_line (Move rev phase force) = codes "phase " ++ (rev ++ 32 ∷ (phase_name phase ++ force_text force))
change_line (Mark name rev) = codes "bookmark " ++ (rev ++ 32 ∷ name)
change_line (Unmark name) = codes "unbookmark " ++ name

abbrev pub question_line : Question → List ℕ
question_line (Phase rev) = codes "phase " ++ rev
question_line Log = codes "log"
question_line Heads = codes "heads"
question_line Bookmarks = codes "bookmarks"
question_line Parents = codes "parents"
question_line (Files rev) = codes "files " ++ rev
question_line (Cat rev path) = codes "cat " ++ (rev ++ 32 ∷ path)

abbrev pub job_line : Job → List ℕ
job_line (Change command) = change_line command
job_line (Ask question) = question_line question

-- what stands behind the line of a job: the record of a commit
abbrev pub record_behind : Wording → Job → List ℕ
record_behind says (Change (Commit change)) = record_text says change
record_behind says job = []

abbrev pub task_text : Wording → Task → List ℕ
task_text says task = line (decimal task.0 ++ 32 ∷ job_line task.1) ++ record_behind says task.1

-- a script, whose records are all worded alike
abbrev pub script_text : Wording → ℕ → List Task → List ℕ
script_text says count tasks = line (codes "session " ++ decimal count) ++ (concat (map (task_text says) tasks) ++ line (codes "end session"))

-- names that a line can say: those of revisions are words, and a path is a line
abbrev pub HasNames : Question → Type 0
HasNames (Phase rev) = IsWord rev
HasNames (Files rev) = IsWord rev
HasNames (Cat rev path) = IsWord rev × Lacks 10 path
HasNames _ = ⊤

abbrev pub CanBeWritten : Job → Type 0
CanBeWritten (Change command) = HasWords command
CanBeWritten (Ask question) = HasNames question

-- a job of one of so many workers, which can be done and written
pub record CanBeTold (workers : ℕ) (task : Task) : Type 0 where
  pub there : task.0 < workers
  pub done : CanBeDone task.1
  pub written : CanBeWritten task.1
