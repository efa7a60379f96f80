-- The bytes that are a script are read as it.
use Rattle.std.proofs.Common.{◌≡◌, inl, inr, ℕ, zero, suc, ◌<◌, ◌≤◌, Bool, true, List, [], ◌∷◌, ◌++◌, length, Option, Some, None, Ok, Err, refl, sym, ◌∙◌, ap, subst, arith, append_assoc, length-append, codes}
use Rattle.std.specs.Prelude.{replicate, if◌then◌else◌}
use Rattle.std.specs.List.{concat}
use Rattle.std.proofs.lemmas.Bool.{le-leb}
use Rattle.std.proofs.lemmas.List.{append-nil}
use Rattle.hgs_bytes.specs.Text.{Lacks, line}
use Rattle.hgs_bytes.specs.Theorems.TextLemmas.{lacks-append, split_over}
use Rattle.hgs_index.specs.declared.kinds.Which.TheVariants.{Record}
use Rattle.hgs_model.specs.declared.command.NewChange.{NewChange}
use Rattle.hgs_model.specs.declared.command.Command.TheVariants.{Commit}
use Rattle.hgs_model.specs.Valid.{IsNewChange}
use Rattle.hgs_input.specs.declared.fault.InputFault.TheVariants.{Limit}
use Rattle.hgs_input.specs.Front.{left}
use Rattle.hgs_input.specs.Record.{Wording, most_input, record_text}
use Rattle.hgs_input.specs.Read.{Rest, Reading, ◌>>=◌, place, next_line, required_at, required, and_then, where_true, record_from}
use Rattle.hgs_script.specs.declared.job.Job.{Job}
use Rattle.hgs_script.specs.declared.job.Job.TheVariants.{Change}
use Rattle.hgs_script.specs.declared.script.Script.{Script}
use Rattle.hgs_script.specs.Read.{Task, workers_of, has_room, worker_of, call_of, job_of, job_at, task_at, next_task, jobs_from, script_from, read_script}
use Rattle.hgs_script.specs.Script.{IsWorker, IsTaskText, AreTaskTexts, IsScript, HaveRoom, jobs_of_each}
use Rattle.hgs_script.proofs.ReadLemmas.{onward}
use Rattle.hgs_script.proofs.TaskLemmas.{each_none, with_next, has_room_back, room_before}
use Rattle.hgs_script.proofs.LineLemmas.{no_commit, no_end}
use Rattle.hgs_schedule.specs.Theorems.LineLemmas.{lacks_lf, line_back, form_back}
use Rattle.hgs_schedule.specs.Theorems.ReadLemmas.{then_ok, RecordsRead}
use Rattle.hgs_schedule.specs.Theorems.WholeLemmas.{alone, looked-whole, read_left}

-- ---- one job

call_back : (n : ℕ) (workers : List (List Job)) (word said : List ℕ) (worker : ℕ) → IsWorker n word worker → has_room workers worker ≡ true → call_of workers (word ++ 32 ∷ said) ≡ Some (worker, said)
call_back n workers word said worker is room =
    ap (λ o. and_then o (λ p. and_then (worker_of workers p.0) (λ k. Some (k, p.1)))) (split_over 32 word said is.plain.0)
    ∙ ap (λ o. and_then (and_then o (λ k. where_true (has_room workers k) k)) (λ k. Some (k, said))) is.number
    ∙ ap (λ t. and_then (where_true t worker) (λ k. Some (k, said))) room

-- a line that says whose job it is, and what is read behind it
next_back : (n w : ℕ) (workers : List (List Job)) (word said rest : List ℕ) (worker : ℕ) (job : Job) (after : Rest) → IsWorker n word worker → has_room workers worker ≡ true → Lacks 10 said →
    job_at (place (left w (line (word ++ 32 ∷ said) ++ rest))) said (left w rest) ≡ Ok (job, after) → next_task workers (left w (line (word ++ 32 ∷ said) ++ rest)) ≡ Ok (Some (worker, job), after)
next_back n w workers word said rest worker job after is room lacks e =
    let words = word ++ 32 ∷ said in
    let at = place (left w (line words ++ rest)) in
    let r = left w rest in
    let on : (ℕ × List ℕ) × Rest → Reading (Option Task) = λ call. job_at at call.0.1 call.1 >>= λ job. Ok (Some (call.0.0, job.0), job.1) in
    then_ok (next_line (left w (line words ++ rest))) (words, r) (λ l. task_at at workers l.0 l.1) (Ok (Some (worker, job), after)) (line_back w words rest (lacks-append 10 word (32 ∷ said) is.plain.1 (refl, lacks)))
    (ap (λ t. if t then Ok (None, r) else (required_at at (call_of workers words) r >>= on)) (no_end word said worker is.plain.0 is.number)
    ∙ ap (λ o. required_at at o r >>= on) (call_back n workers word said worker is room)
    ∙ ap (λ x. x >>= λ job. Ok (Some (worker, job.0), job.1)) e)

line_task : (n w : ℕ) (workers : List (List Job)) (word said rest : List ℕ) (worker : ℕ) (job : Job) → IsWorker n word worker → has_room workers worker ≡ true → Lacks 10 said → job_of said ≡ Some job →
    next_task workers (left w (line (word ++ 32 ∷ said) ++ rest)) ≡ Ok (Some (worker, job), left w rest)
line_task n w workers word said rest worker job is room lacks says =
    let at = place (left w (line (word ++ 32 ∷ said) ++ rest)) in
    let r = left w rest in
    next_back n w workers word said rest worker job r is room lacks
    (ap (λ t. if t then (record_from r >>= λ c. Ok (Change (Commit c.0), c.1)) else required_at at (job_of said) r) (no_commit said job says)
    ∙ ap (λ o. required_at at o r) says)

commit_task : RecordsRead → (n w : ℕ) (workers : List (List Job)) (word : List ℕ) (says : Wording) (c : NewChange) (rest : List ℕ) (worker : ℕ) → IsWorker n word worker → has_room workers worker ≡ true → IsNewChange c →
    next_task workers (left w ((line (word ++ 32 ∷ codes "commit") ++ record_text says c) ++ rest)) ≡ Ok (Some (worker, Change (Commit c)), left w rest)
commit_task read n w workers word says c rest worker is room valid =
    let behind_line = record_text says c ++ rest in
    ap (λ b. next_task workers (left w b)) (append_assoc (line (word ++ 32 ∷ codes "commit")) (record_text says c) rest)
    ∙ next_back n w workers word (codes "commit") behind_line worker (Change (Commit c)) (left w rest) is room (lacks_lf (codes "commit") refl)
    (then_ok (record_from (left w behind_line)) (c, left w rest) (λ c. Ok (Change (Commit c.0), c.1)) (Ok (Change (Commit c), left w rest)) (read says c w rest valid) refl)

text_task : RecordsRead → (n w : ℕ) (workers : List (List Job)) (text rest : List ℕ) (task : Task) → has_room workers task.0 ≡ true → IsTaskText n text task → next_task workers (left w (text ++ rest)) ≡ Ok (Some task, left w rest)
text_task read n w workers text rest task room (inl h) =
    ap (λ t. next_task workers (left w (t ++ rest))) h.is ∙ line_task n w workers h.word h.said rest task.0 task.1 h.worker room h.lacks h.says
text_task read n w workers text rest task room (inr h) =
    ap (λ t. next_task workers (left w (t ++ rest))) h.is ∙ commit_task read n w workers h.word h.says h.change rest task.0 h.worker room h.valid ∙ ap (λ j. Ok (Some (task.0, j), left w rest)) h.commits

end_task : (w : ℕ) (workers : List (List Job)) (rest : List ℕ) → next_task workers (left w (line (codes "end session") ++ rest)) ≡ Ok (None, left w rest)
end_task w workers rest =
    let r = left w (line (codes "end session") ++ rest) in
    then_ok (next_line r) (codes "end session", left w rest) (λ l. task_at (place r) workers l.0 l.1) (Ok (None, left w rest)) (line_back w (codes "end session") rest (lacks_lf (codes "end session") refl)) refl

-- ---- all jobs

there_is : (n : ℕ) (text : List ℕ) (task : Task) → IsTaskText n text task → task.0 < n
there_is n text task (inl h) = h.worker.there
there_is n text task (inr h) = h.worker.there

text_some : (n : ℕ) (text : List ℕ) (task : Task) → IsTaskText n text task → 0 < length text
text_some n text task (inl h) = let a = ap length h.is ∙ length-append (h.word ++ 32 ∷ h.said) (10 ∷ []) in omega (arith, a)
text_some n text task (inr h) =
    let a = ap length h.is ∙ length-append (line (h.word ++ 32 ∷ codes "commit")) (record_text h.says h.change) in
    let b = length-append (h.word ++ 32 ∷ codes "commit") (10 ∷ []) in
    omega (arith, a, b)

tasks_back : RecordsRead → (n k w : ℕ) (done : List Task) (texts : List (List ℕ)) (new : List Task) (rest : List ℕ) → length (concat texts ++ line (codes "end session")) ≤ k → AreTaskTexts n texts new → HaveRoom (done ++ new) →
    jobs_from k (jobs_of_each 0 n done) (left w ((concat texts ++ line (codes "end session")) ++ rest)) ≡ Ok (jobs_of_each 0 n (done ++ new), left w rest)
tasks_back read n zero w done texts new rest size are room = let all = length-append (concat texts) (line (codes "end session")) in absurd (omega (arith, all, size))
tasks_back read n (suc k) w done [] [] rest size are room =
    let workers = jobs_of_each 0 n done in
    then_ok (next_task workers (left w (line (codes "end session") ++ rest))) (None, left w rest) (onward k workers) (Ok (jobs_of_each 0 n (done ++ []), left w rest)) (end_task w workers rest)
    (ap (λ t. Ok (jobs_of_each 0 n t, left w rest)) (sym (append-nil done)))
tasks_back read n (suc k) w done [] (task ∷ new) rest size are room = absurd are
tasks_back read n (suc k) w done (text ∷ texts) [] rest size are room = absurd are
tasks_back read n (suc k) w done (text ∷ texts) (task ∷ new) rest size are room =
    let workers = jobs_of_each 0 n done in
    let last = line (codes "end session") in
    let behind_text = (concat texts ++ last) ++ rest in
    let is : ((text ++ concat texts) ++ last) ++ rest ≡ text ++ behind_text = ap (λ t. t ++ rest) (append_assoc text (concat texts) last) ∙ append_assoc text (concat texts ++ last) rest in
    let some = text_some n text task are.0 in
    let there = there_is n text task are.0 in
    let all = ap length (append_assoc text (concat texts) last) ∙ length-append text (concat texts ++ last) in
    let assoc = append_assoc done (task ∷ []) new in
    ap (λ b. jobs_from (suc k) workers (left w b)) is
    ∙ then_ok (next_task workers (left w (text ++ behind_text))) (Some task, left w behind_text) (onward k workers) (Ok (jobs_of_each 0 n (done ++ task ∷ new), left w rest))
    (text_task read n w workers text behind_text task (has_room_back n done task.0 (record { there = there; room = room_before done new task room })) are.0)
    (ap (λ l. jobs_from k l (left w behind_text)) (with_next n done task there)
    ∙ tasks_back read n k w (done ++ task ∷ []) texts new rest (omega (arith, size, some, all)) are.1 (subst HaveRoom (sym assoc) room)
    ∙ ap (λ t. Ok (jobs_of_each 0 n t, left w rest)) assoc)

-- ---- the whole

pub script_back : RecordsRead → (bytes : List ℕ) (s : Script) → IsScript bytes s → read_script bytes ≡ Ok s
script_back read bytes s h =
    let w = length bytes in
    let n = h.count in
    let each = jobs_of_each 0 n h.tasks in
    let texts = concat h.texts ++ line (codes "end session") in
    let is : bytes ≡ line h.first ++ (texts ++ []) = h.is ∙ ap (λ t. line h.first ++ t) (sym (append-nil texts)) in
    let k = length (texts ++ []) in
    let same_length = ap length (append-nil texts) in
    let made : Script = record { workers = each } in
    ap (read_left script_from) (looked-whole bytes h.size)
    ∙ ap (λ b. script_from (left w b) >>= alone) is
    ∙ then_ok (script_from (left w (line h.first ++ (texts ++ [])))) (made, left w []) alone (Ok made)
    (then_ok (required workers_of (left w (line h.first ++ (texts ++ [])))) (n, left w (texts ++ [])) (λ n. jobs_from (length n.1.bytes) (replicate n.0 []) n.1 >>= λ all. Ok (record { workers = all.0 }, all.1)) (Ok (made, left w []))
    (form_back workers_of w h.first (texts ++ []) n h.lacks h.counted)
    (then_ok (jobs_from k (replicate n []) (left w (texts ++ []))) (each, left w []) (λ all. Ok (record { workers = all.0 }, all.1)) (Ok (made, left w []))
    (ap (λ l. jobs_from k l (left w (texts ++ []))) (each_none 0 n) ∙ tasks_back read n k w [] h.texts h.tasks [] (omega (arith, same_length)) h.are h.room) refl))
    (ap (λ t. (if t then Ok tt else Err (Limit Record)) >>= λ _. Ok made) (le-leb w most_input h.size))
    ∙ ap (λ l. Ok (record { workers = l })) (sym h.workers)
