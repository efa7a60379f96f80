-- What is read of a front of an input: the same as of the whole, or that it is cut.
use Rattle.std.proofs.Common.{◌≡◌, inl, ℕ, zero, suc, ◌+◌, ◌≤◌, Bool, true, false, List, [], ◌++◌, length, Option, Some, None, Ok, refl, ap, arith, length-append, codes}
use Rattle.std.specs.Prelude.{replicate, if◌then◌else◌}
use Rattle.hgs_bytes.specs.Bytes.{same}
use Rattle.hgs_model.specs.declared.command.Command.TheVariants.{Commit}
use Rattle.hgs_input.specs.Front.{left, Alike}
use Rattle.hgs_input.specs.Read.{Rest, Reading, ◌>>=◌, required_at, record_from}
use Rattle.hgs_script.specs.declared.job.Job.{Job}
use Rattle.hgs_script.specs.declared.job.Job.TheVariants.{Change}
use Rattle.hgs_script.specs.Read.{Task, workers_of, with_job, call_of, job_of, job_at, task_at, next_task, jobs_from, script_from}
use Rattle.hgs_script.proofs.ReadLemmas.{task_fewer, at_end, onward}
use Rattle.hgs_schedule.specs.Theorems.FrontLemmas.{alike_read, bind_alike, required_at_alike, behind_line_alike, form_alike, RecordsAlike}
use Rattle.hgs_schedule.specs.Theorems.ReadLemmas.{RecordsStand}
use Rattle.hgs_schedule.specs.Theorems.WholeLemmas.{ReadsAlike}

job_alike : RecordsAlike → (at : ℕ) (said : List ℕ) (w : ℕ) (tail bytes : List ℕ) → Alike w tail (job_at at said (left w bytes)) (job_at at said (left (w + length tail) (bytes ++ tail)))
job_alike alike at said w tail bytes = by (same said (codes "commit"))
  where
    front : Rest
    front = left w bytes

    all : Rest
    all = left (w + length tail) (bytes ++ tail)

    by : (t : Bool) → Alike w tail (if t then (record_from front >>= λ c. Ok (Change (Commit c.0), c.1)) else required_at at (job_of said) front) (if t then (record_from all >>= λ c. Ok (Change (Commit c.0), c.1)) else required_at at (job_of said) all)
    by true =
        bind_alike w tail (record_from front) (record_from all) (λ c. Ok (Change (Commit c.0), c.1)) (λ c. Ok (Change (Commit c.0), c.1)) (alike w tail bytes)
        (λ c rest e. alike_read w tail rest (Change (Commit c)))
    by false = required_at_alike at w tail bytes (job_of said)

said_alike : RecordsAlike → (at : ℕ) (workers : List (List Job)) (w : ℕ) (line tail bytes : List ℕ) → Alike w tail (task_at at workers line (left w bytes)) (task_at at workers line (left (w + length tail) (bytes ++ tail)))
said_alike alike at workers w line tail bytes = by (same line (codes "end session"))
  where
    front : Rest
    front = left w bytes

    all : Rest
    all = left (w + length tail) (bytes ++ tail)

    on : (ℕ × List ℕ) × Rest → Reading (Option Task)
    on call = job_at at call.0.1 call.1 >>= λ job. Ok (Some (call.0.0, job.0), job.1)

    by : (t : Bool) → Alike w tail (if t then Ok (None, front) else (required_at at (call_of workers line) front >>= on)) (if t then Ok (None, all) else (required_at at (call_of workers line) all >>= on))
    by true = alike_read w tail bytes None
    by false =
        bind_alike w tail (required_at at (call_of workers line) front) (required_at at (call_of workers line) all) on on (required_at_alike at w tail bytes (call_of workers line))
        (λ call rest e. bind_alike w tail (job_at at call.1 (left w rest)) (job_at at call.1 (left (w + length tail) (rest ++ tail))) (λ job. Ok (Some (call.0, job.0), job.1)) (λ job. Ok (Some (call.0, job.0), job.1))
        (job_alike alike at call.1 w tail rest) (λ job more f. alike_read w tail more (Some (call.0, job))))

task_alike : RecordsAlike → (workers : List (List Job)) (w : ℕ) (tail bytes : List ℕ) → Alike w tail (next_task workers (left w bytes)) (next_task workers (left (w + length tail) (bytes ++ tail)))
task_alike alike workers w tail bytes = behind_line_alike w tail bytes (λ at words rest. task_at at workers words rest) (λ at words rest. said_alike alike at workers w words tail rest)

jobs_alike : RecordsStand → RecordsAlike → (n m : ℕ) (workers : List (List Job)) (w : ℕ) (tail bytes : List ℕ) → length bytes ≤ n → length (bytes ++ tail) ≤ m →
    Alike w tail (jobs_from n workers (left w bytes)) (jobs_from m workers (left (w + length tail) (bytes ++ tail)))
jobs_alike stand alike zero m workers w tail bytes a b = inl refl
jobs_alike stand alike (suc n) zero workers w tail bytes a b =
    let size = length-append bytes tail in
    inl (ap (λ x. x >>= onward n workers) (at_end workers (left w bytes) (omega (arith, size, b))))
jobs_alike stand alike (suc n) (suc m) workers w tail bytes a b =
    bind_alike w tail (next_task workers (left w bytes)) (next_task workers (left (w + length tail) (bytes ++ tail))) (onward n workers) (onward m workers)
    (task_alike alike workers w tail bytes) (λ o rest e. by o rest e (λ task. jobs_alike stand alike n m (with_job workers task.0 task.1) w tail rest))
  where
    by : (o : Option Task) (rest : List ℕ) → next_task workers (left w bytes) ≡ Ok (o, left w rest) →
        ((task : Task) → length rest ≤ n → length (rest ++ tail) ≤ m → Alike w tail (jobs_from n (with_job workers task.0 task.1) (left w rest)) (jobs_from m (with_job workers task.0 task.1) (left (w + length tail) (rest ++ tail)))) →
        Alike w tail (onward n workers (o, left w rest)) (onward m workers (o, left (w + length tail) (rest ++ tail)))
    by None rest e k = alike_read w tail rest workers
    by (Some task) rest e k =
        let fewer = task_fewer stand workers (left w bytes) (Some task, left w rest) e in
        let p = length-append bytes tail in
        let q = length-append rest tail in
        k task (omega (arith, fewer, a)) (omega (arith, fewer, b, p, q))

pub script_alike : RecordsStand → RecordsAlike → ReadsAlike script_from
script_alike stand alike w tail bytes =
    bind_alike w tail _ _ _ _ (form_alike workers_of w tail bytes)
    (λ count r1 e1. bind_alike w tail _ _ _ _ (jobs_alike stand alike (length r1) (length (r1 ++ tail)) (replicate count []) w tail r1 (omega arith) (omega arith))
    (λ all r2 e2. alike_read w tail r2 (record { workers = all })))
