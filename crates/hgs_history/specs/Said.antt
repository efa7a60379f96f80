-- What a question of a session is answered with, in the words of a repository.
use Rattle.std.specs.Prelude.{◌≡◌, ◌-◌, ℕ, List, [], drop, length, Option, Some, None}
use Rattle.hgs_files.specs.Reads.{Rose}
use Rattle.hgs_load.specs.declared.answer.ReadAnswer.TheVariants.{Fault}
use Rattle.hgs_model.specs.Names.{named}
use Rattle.hgs_model.specs.Repo.{Repo}
use Rattle.hgs_questions.specs.Said.{behind, lost, refused, said, said_of, unknown}
use Rattle.hgs_script.specs.declared.job.Question.{Question}
use Rattle.hgs_script.specs.declared.job.Question.TheVariants.{Bookmarks, Cat, Files, Heads, Log, Parents, Phase}
use Rattle.hgs_script.specs.declared.result.Answered.{Answered}
use Rattle.hgs_shown.specs.Answers.{body_answer, body_at, bookmarks_text, files_text_of, heads_text, log_lines, log_text, parents_text, phase_text}

-- what is said of a revision, where a name names one
abbrev pub of_named : Option ℕ → (ℕ → Answered) → Answered
of_named None answer = unknown
of_named (Some rev) answer = answer rev

-- The whole answer. A name that names nothing, and a path that the changeset lacks, are said to be unknown.
abbrev pub answer_of : Repo → Question → Answered
answer_of r (Phase name) = of_named (named r name) (λ rev. said (phase_text r rev))
answer_of r Log = said (log_text r)
answer_of r Heads = said (heads_text r)
answer_of r Bookmarks = said (bookmarks_text r)
answer_of r Parents = said (parents_text r)
answer_of r (Files name) = of_named (named r name) (λ rev. said (files_text_of r rev))
answer_of r (Cat name path) = of_named (named r name) (λ rev. said_of (body_answer (body_at r rev path)))

-- the lines of so many changesets, newest first, from the newest on
abbrev pub newest_lines : Repo → ℕ → List ℕ
newest_lines r count = log_lines r (length r.changesets - count) (drop (length r.changesets - count) r.changesets)

-- what stands before the line of a fault: of a log the lines of so many changesets, of another question nothing
abbrev pub front_of : Repo → Question → ℕ → List ℕ
front_of r (Phase name) count = []
front_of r Log count = newest_lines r count
front_of r Heads count = []
front_of r Bookmarks count = []
front_of r Parents count = []
front_of r (Files name) count = []
front_of r (Cat name path) count = []

-- A question is answered of this repository: with the whole answer; or a fault of the files came, which they counted, behind a front
-- of it; or there was no memory.
pub data IsOf (r : Repo) (question : Question) (faults_old faults_new : ℕ) (answered : Answered) : Type 0 where
  whole : answered ≡ answer_of r question → IsOf r question faults_old faults_new answered
  cut : (count : ℕ) → Rose faults_old faults_new → answered ≡ behind (front_of r question count) (refused Fault) → IsOf r question faults_old faults_new answered
  untold : answered ≡ lost → IsOf r question faults_old faults_new answered
