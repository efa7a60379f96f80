-- The text of what came of a session.
use Rattle.std.specs.Prelude.{ℕ, suc, List, [], ◌∷◌, ◌++◌, length, flat_map, Option, Some, None, codes, decimal}
use Rattle.hgs_bytes.specs.Text.{line}
use Rattle.hgs_index.specs.Hex.{hex}
use Rattle.hgs_script.specs.declared.result.PublishedJob.{PublishedJob}
use Rattle.hgs_script.specs.declared.result.Answered.{Answered}
use Rattle.hgs_script.specs.declared.result.SessionResult.{SessionResult}

-- worker, job, and the changeset with its node
abbrev pub published_line : PublishedJob → List ℕ
published_line p = line (codes "published " ++ (decimal p.worker ++ 32 ∷ (decimal p.job ++ 32 ∷ (decimal p.rev ++ 58 ∷ hex p.node.0))))

abbrev pub unsure_text : Option (ℕ × ℕ) → List ℕ
unsure_text None = []
unsure_text (Some job) = line (codes "unsure " ++ (decimal job.0 ++ 32 ∷ decimal job.1))

-- a line that counts the text of the answer, and that text with an LF behind it
abbrev pub answer_text : ℕ → ℕ → Answered → List ℕ
answer_text worker job a =
    line (codes "worker " ++ (decimal worker ++ (codes " job " ++ (decimal job ++ (codes " status " ++ (decimal a.status ++ (codes " length " ++ decimal (length a.text)))))))) ++ line a.text

-- the answers of a worker from this job on
abbrev pub answers_text : ℕ → ℕ → List Answered → List ℕ
answers_text worker job [] = []
answers_text worker job (a ∷ answers) = answer_text worker job a ++ answers_text worker (suc job) answers

-- the answers of the workers from this one on
abbrev pub replies_text : ℕ → List (List Answered) → List ℕ
replies_text worker [] = []
replies_text worker (answers ∷ replies) = answers_text worker 0 answers ++ replies_text (suc worker) replies

abbrev pub result_text : SessionResult → List ℕ
result_text r = flat_map published_line r.published ++ (unsure_text r.unsure ++ replies_text 0 r.replies)
