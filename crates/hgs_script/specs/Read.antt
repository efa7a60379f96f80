-- What an input is read as: a script, or the first fault.
use Rattle.std.specs.Prelude.{ℕ, zero, suc, Bool, ◌&&◌, not, nat_le, nat_lt, List, [], ◌∷◌, ◌++◌, length, replicate, slice_index_or, slice_set, Option, Some, None, Result, Ok, Err, codes, if◌then◌else◌}
use Rattle.std.specs.Option.{option_map, option_or}
use Rattle.hgs_bytes.specs.Bytes.{same}
use Rattle.hgs_bytes.specs.Text.{split}
use Rattle.hgs_index.specs.MarkName.{is_mark_name}
use Rattle.hgs_model.specs.declared.command.Command.{Command}
use Rattle.hgs_model.specs.declared.command.Command.TheVariants.{Commit, Move, Mark, Unmark}
use Rattle.hgs_input.specs.declared.fault.InputFault.{InputFault}
use Rattle.hgs_input.specs.Read.{Rest, Reading, ◌>>=◌, bad_at, place, next_line, required_at, required, behind, and_then, where_true, number_up_to, nothing_behind, record_from, start_of}
use Rattle.hgs_schedule.specs.Read.{has_space, target_of}
use Rattle.hgs_script.specs.declared.job.Job.{Job}
use Rattle.hgs_script.specs.declared.job.Job.TheVariants.{Change, Ask}
use Rattle.hgs_script.specs.declared.job.Question.{Question}
use Rattle.hgs_script.specs.declared.job.Question.TheVariants as questions
use Rattle.hgs_script.specs.declared.script.Script.{Script}

abbrev pub most_workers : ℕ
most_workers = 64

-- the most jobs of a worker
abbrev pub most_jobs : ℕ
most_jobs = 10000

-- a job, behind the number of the worker whose it is
abbrev pub Task : Type 0
Task = ℕ × Job

-- ---- workers

abbrev pub workers_of : List ℕ → Option ℕ
workers_of line = and_then (behind (codes "session ") line) (λ text. and_then (number_up_to most_workers text) (λ n. where_true (nat_le 1 n && nat_le n most_workers) n))

abbrev pub jobs_at : List (List Job) → ℕ → List Job
jobs_at workers worker = slice_index_or workers worker []

-- whether there is a worker of this number, who may have one more job
abbrev pub has_room : List (List Job) → ℕ → Bool
has_room workers worker = nat_lt worker (length workers) && nat_lt (length (jobs_at workers worker)) most_jobs

-- a job behind those of a worker
abbrev pub with_job : List (List Job) → ℕ → Job → List (List Job)
with_job workers worker job = slice_set workers worker (jobs_at workers worker ++ job ∷ [])

abbrev pub worker_of : List (List Job) → List ℕ → Option ℕ
worker_of workers text = and_then (number_up_to most_workers text) (λ n. where_true (has_room workers n) n)

-- whose job a line says, and the words of the job
abbrev pub call_of : List (List Job) → List ℕ → Option (ℕ × List ℕ)
call_of workers line = and_then (split 32 line) (λ p. and_then (worker_of workers p.0) (λ worker. Some (worker, p.1)))

-- ---- what the words of a job say

-- the questions that are words alone
abbrev pub word_question : List ℕ → Option Question
word_question said =
    if same said (codes "log") then Some questions.Log
    else if same said (codes "heads") then Some questions.Heads
    else if same said (codes "bookmarks") then Some questions.Bookmarks
    else where_true (same said (codes "parents")) questions.Parents

abbrev pub phase_question_of : List ℕ → Option Question
phase_question_of said = and_then (behind (codes "phase ") said) (λ rev. where_true (not (has_space rev)) (questions.Phase rev))

abbrev pub files_of : List ℕ → Option Question
files_of said = and_then (behind (codes "files ") said) (λ rev. where_true (not (has_space rev)) (questions.Files rev))

-- a revision's name without a space, and a path
abbrev pub cat_of : List ℕ → Option Question
cat_of said = and_then (behind (codes "cat ") said) (λ text. and_then (split 32 text) (λ p. Some (questions.Cat p.0 p.1)))

abbrev pub question_of : List ℕ → Option Question
question_of said = option_or (word_question said) (option_or (phase_question_of said) (option_or (files_of said) (cat_of said)))

abbrev pub move_of : List ℕ → Option Command
move_of said = and_then (behind (codes "phase ") said) (λ text. and_then (split 32 text) (λ p. and_then (target_of p.1) (λ target. Some (Move p.0 target.0 target.1))))

abbrev pub mark_of : List ℕ → Option Command
mark_of said = and_then (behind (codes "bookmark ") said) (λ text. and_then (split 32 text) (λ p. where_true (is_mark_name p.1) (Mark p.1 p.0)))

abbrev pub unmark_of : List ℕ → Option Command
unmark_of said = and_then (behind (codes "unbookmark ") said) (λ name. where_true (is_mark_name name) (Unmark name))

-- the command of a job that writes, where a line says all of it
abbrev pub change_of : List ℕ → Option Command
change_of said = option_or (move_of said) (option_or (mark_of said) (unmark_of said))

-- the job that the words of a line say alone
abbrev pub job_of : List ℕ → Option Job
job_of said = option_or (option_map (λ c. Change c) (change_of said)) (option_map (λ q. Ask q) (question_of said))

-- ---- the script

-- at a commit its record; else what the words say
abbrev pub job_at : ℕ → List ℕ → Rest → Reading Job
job_at at said rest =
    if same said (codes "commit") then (record_from rest >>= λ c. Ok (Change (Commit c.0), c.1))
    else required_at at (job_of said) rest

-- at the last line no job
abbrev pub task_at : ℕ → List (List Job) → List ℕ → Rest → Reading (Option Task)
task_at at workers line rest =
    if same line (codes "end session") then Ok (None, rest)
    else (required_at at (call_of workers line) rest >>= λ call. job_at at call.0.1 call.1 >>= λ job. Ok (Some (call.0.0, job.0), job.1))

-- the next job, where the script is not at its end
abbrev pub next_task : List (List Job) → Rest → Reading (Option Task)
next_task workers r = next_line r >>= λ l. task_at (place r) workers l.0 l.1

-- the jobs with one more and what is read behind it, or the jobs alone where there is none
abbrev pub jobs_on : List (List Job) → Option Task → Rest → (List (List Job) → Rest → Reading (List (List Job))) → Reading (List (List Job))
jobs_on workers None r next = Ok (workers, r)
jobs_on workers (Some task) r next = next (with_job workers task.0 task.1) r

-- these jobs and those behind them; n is no less than the number of bytes that are left
abbrev pub jobs_from : ℕ → List (List Job) → Rest → Reading (List (List Job))
jobs_from zero workers r = Err (bad_at r.whole)
jobs_from (suc n) workers r = next_task workers r >>= λ t. jobs_on workers t.0 t.1 (λ all rest. jobs_from n all rest)

abbrev pub script_from : Rest → Reading Script
script_from r = do
  count ← required workers_of r
  all ← jobs_from (length count.1.bytes) (replicate count.0 []) count.1
  Ok (record { workers = all.0 }, all.1)

-- the script with nothing behind it, or the first fault of the input
abbrev pub read_script : List ℕ → Result Script InputFault
read_script bytes = do
  script ← script_from (start_of bytes)
  end ← nothing_behind script.1
  Ok script.0
