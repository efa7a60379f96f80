-- What is left behind a job, and a loop's next job or a fault in place of it.
use Rattle.std.proofs.Common.{◌≡◌, ℕ, zero, suc, ◌<◌, ◌≤◌, Bool, true, false, List, length, Option, Some, None, Ok, Err, refl, sym, ◌∙◌, ap, arith}
use Rattle.std.specs.Prelude.{nat_lt, codes, if◌then◌else◌}
use Rattle.std.proofs.lemmas.Bool.{leb-true}
use Rattle.hgs_bytes.specs.Bytes.{same}
use Rattle.hgs_bytes.specs.Text.{split}
use Rattle.hgs_model.specs.declared.command.Command.TheVariants.{Commit}
use Rattle.hgs_input.specs.declared.fault.InputFault.{InputFault}
use Rattle.hgs_input.specs.Read.{Rest, Reading, ◌>>=◌, bad_at, place, next_line, required_at, and_then, where_true, number_up_to, record_from, is_memory}
use Rattle.hgs_script.specs.declared.job.Job.{Job}
use Rattle.hgs_script.specs.declared.job.Job.TheVariants.{Change}
use Rattle.hgs_script.specs.Read.{Task, most_workers, most_jobs, jobs_at, has_room, with_job, worker_of, call_of, job_of, job_at, task_at, next_task, jobs_on, jobs_from}
use Rattle.hgs_schedule.specs.Theorems.ReadLemmas.{bound, ok_is, some_is, none_some, then_some, where_some, both, required_is, line_fewer, line_at_end, RecordsStand, record_fewer, Refused, free}

-- ---- whose job a line says

pub record CallFound (workers : List (List Job)) (line : List ℕ) (call : ℕ × List ℕ) : Type 0 where
  pub parts : List ℕ × List ℕ
  pub split : split 32 line ≡ Some parts
  pub number : number_up_to most_workers parts.0 ≡ Some call.0
  pub room : has_room workers call.0 ≡ true
  pub said : parts.1 ≡ call.1

pub call_found : (workers : List (List Job)) (line : List ℕ) (call : ℕ × List ℕ) → call_of workers line ≡ Some call → CallFound workers line call
call_found workers line call e =
    let a = then_some (split 32 line) (λ p. and_then (worker_of workers p.0) (λ worker. Some (worker, p.1))) call e in
    let b = then_some (worker_of workers a.0.0) (λ worker. Some (worker, a.0.1)) call a.2 in
    let c = then_some (number_up_to most_workers a.0.0) (λ n. where_true (has_room workers n) n) b.0 b.1 in
    let d = where_some (has_room workers c.0) c.0 b.0 c.2 in
    let is = some_is (b.0, a.0.1) call b.2 in
    let number : c.0 ≡ call.0 = d.1 ∙ ap (λ (p : ℕ × List ℕ). p.0) is in
    record {
      parts = a.0;
      split = a.1;
      number = c.1 ∙ ap (λ n. Some n) number;
      room = sym (ap (has_room workers) number) ∙ d.0;
      said = ap (λ (p : ℕ × List ℕ). p.1) is;
    }

pub record HasRoom (workers : List (List Job)) (worker : ℕ) : Type 0 where
  pub there : worker < length workers
  pub room : length (jobs_at workers worker) < most_jobs

pub room_is : (workers : List (List Job)) (worker : ℕ) → has_room workers worker ≡ true → HasRoom workers worker
room_is workers worker e =
    let t = both (nat_lt worker (length workers)) (nat_lt (length (jobs_at workers worker)) most_jobs) e in
    record { there = leb-true (suc worker) (length workers) t.0; room = leb-true (suc (length (jobs_at workers worker))) most_jobs t.1 }

-- a line that says a job: whose it is, and the job itself
pub record TaskFound (at : ℕ) (workers : List (List Job)) (line : List ℕ) (r : Rest) (task : Task) (rest : Rest) : Type 0 where
  pub said : List ℕ
  pub call : CallFound workers line (task.0, said)
  pub job : job_at at said r ≡ Ok (task.1, rest)

pub task_found : (at : ℕ) (workers : List (List Job)) (line : List ℕ) (r : Rest) (p : Option Task × Rest) →
    (required_at at (call_of workers line) r >>= λ call. job_at at call.0.1 call.1 >>= λ job. Ok (Some (call.0.0, job.0), job.1)) ≡ Ok p →
    (task : Task) × (p.0 ≡ Some task) × TaskFound at workers line r task p.1
task_found at workers line r p e =
    let a = bound (required_at at (call_of workers line) r) (λ call. job_at at call.0.1 call.1 >>= λ job. Ok (Some (call.0.0, job.0), job.1)) p e in
    let call = a.value in
    let h = required_is at (call_of workers line) r call a.is in
    let b = bound (job_at at call.0.1 call.1) (λ job. Ok (Some (call.0.0, job.0), job.1)) p a.gives in
    let job = b.value in
    let is = ok_is {A = Option Task × Rest} (Some (call.0.0, job.0), job.1) p b.gives in
    let rest : job.1 ≡ p.1 = ap (λ (q : Option Task × Rest). q.1) is in (
      (call.0.0, job.0),
      sym (ap (λ (q : Option Task × Rest). q.0) is),
      record {
        said = call.0.1;
        call = call_found workers line call.0 h.0;
        job = sym (ap (job_at at call.0.1) h.1) ∙ b.is ∙ ap (λ x. Ok (job.0, x)) rest;
      },
    )

-- the next line says this job
pub task_is : (workers : List (List Job)) (r mid rest : Rest) (line said : List ℕ) (worker : ℕ) (job : Job) → next_line r ≡ Ok (line, mid) → same line (codes "end session") ≡ false → call_of workers line ≡ Some (worker, said) →
    job_at (place r) said mid ≡ Ok (job, rest) → next_task workers r ≡ Ok (Some (worker, job), rest)
task_is workers r mid rest line said worker job is other calls says =
    let on : (ℕ × List ℕ) × Rest → Reading (Option Task) = λ call. job_at (place r) call.0.1 call.1 >>= λ job. Ok (Some (call.0.0, job.0), job.1) in
    ap (λ x. x >>= λ l. task_at (place r) workers l.0 l.1) is
    ∙ ap (λ t. if t then Ok (None, mid) else (required_at (place r) (call_of workers line) mid >>= on)) other
    ∙ ap (λ o. required_at (place r) o mid >>= on) calls
    ∙ ap (λ x. x >>= λ job. Ok (Some (worker, job.0), job.1)) says

-- ---- fewer bytes are left

job_fewer : RecordsStand → (at : ℕ) (said : List ℕ) (r : Rest) (p : Job × Rest) → job_at at said r ≡ Ok p → length p.1.bytes ≤ length r.bytes
job_fewer stand at said r p e = by (same said (codes "commit")) e
  where
    by : (t : Bool) → (if t then (record_from r >>= λ c. Ok (Change (Commit c.0), c.1)) else required_at at (job_of said) r) ≡ Ok p → length p.1.bytes ≤ length r.bytes
    by true k =
        let b = bound (record_from r) (λ c. Ok (Change (Commit c.0), c.1)) p k in
        let few = record_fewer stand r b.value b.is in
        let same = ap (λ x. length x.1.bytes) (ok_is {A = Job × Rest} (Change (Commit b.value.0), b.value.1) p b.gives) in
        omega (arith, few, same)
    by false k = let same = ap (λ (x : Rest). length x.bytes) (required_is at (job_of said) r p k).1 in omega (arith, same)

behind_fewer : RecordsStand → (at : ℕ) (workers : List (List Job)) (line : List ℕ) (r : Rest) (p : Option Task × Rest) → task_at at workers line r ≡ Ok p → length p.1.bytes ≤ length r.bytes
behind_fewer stand at workers line r p e = by (same line (codes "end session")) e
  where
    by : (t : Bool) → (if t then Ok (None, r) else (required_at at (call_of workers line) r >>= λ call. job_at at call.0.1 call.1 >>= λ job. Ok (Some (call.0.0, job.0), job.1))) ≡ Ok p → length p.1.bytes ≤ length r.bytes
    by true k = let same = ap (λ x. length x.1.bytes) (ok_is {A = Option Task × Rest} (None, r) p k) in omega (arith, same)
    by false k = let found = task_found at workers line r p k in job_fewer stand at found.2.said r (found.0.1, p.1) found.2.job

pub task_fewer : RecordsStand → (workers : List (List Job)) (r : Rest) (p : Option Task × Rest) → next_task workers r ≡ Ok p → length p.1.bytes < length r.bytes
task_fewer stand workers r p e =
    let b = bound (next_line r) (λ l. task_at (place r) workers l.0 l.1) p e in
    let first = line_fewer r b.value b.is in
    let behind_line = behind_fewer stand (place r) workers b.value.0 b.value.1 p b.gives in
    omega (arith, first, behind_line)

-- a job is that of a worker who is there
pub task_there : (workers : List (List Job)) (r : Rest) (task : Task) (rest : Rest) → next_task workers r ≡ Ok (Some task, rest) → task.0 < length workers
task_there workers r task rest e =
    let b = bound (next_line r) (λ l. task_at (place r) workers l.0 l.1) (Some task, rest) e in
    by b.value.0 b.value.1 (same b.value.0 (codes "end session")) b.gives
  where
    by : (line : List ℕ) (mid : Rest) (t : Bool) →
        ◌≡◌ {A = Reading (Option Task)} (if t then Ok (None, mid) else (required_at (place r) (call_of workers line) mid >>= λ call. job_at (place r) call.0.1 call.1 >>= λ job. Ok (Some (call.0.0, job.0), job.1))) (Ok (Some task, rest)) → task.0 < length workers
    by line mid true k = absurd (none_some task (ap (λ (q : Option Task × Rest). q.0) (ok_is {A = Option Task × Rest} (None, mid) (Some task, rest) k)))
    by line mid false k =
        let found = task_found (place r) workers line mid (Some task, rest) k in
        let there = (room_is workers found.0.0 found.2.call.room).there in
        let same : task.0 ≡ found.0.0 = ap (λ (x : Task). x.0) (some_is task found.0 found.1) in
        omega (arith, there, same)

-- ---- the loop

-- where the bytes are at an end, the next line is cut
pub at_end : (workers : List (List Job)) (r : Rest) → length r.bytes ≤ 0 → next_task workers r ≡ Err (bad_at r.whole)
at_end workers r h = ap (λ x. x >>= λ l. task_at (place r) workers l.0 l.1) (line_at_end r h)

abbrev pub onward : ℕ → List (List Job) → Option Task × Rest → Reading (List (List Job))
onward n workers t = jobs_on workers t.0 t.1 (λ all rest. jobs_from n all rest)

-- how many bytes are left, where there are no more than that, decides nothing
enough : RecordsStand → (n m : ℕ) (workers : List (List Job)) (r : Rest) → length r.bytes ≤ n → length r.bytes ≤ m → jobs_from n workers r ≡ jobs_from m workers r
enough stand zero zero workers r a b = refl
enough stand zero (suc m) workers r a b = sym (ap (λ x. x >>= onward m workers) (at_end workers r a))
enough stand (suc n) zero workers r a b = ap (λ x. x >>= onward n workers) (at_end workers r b)
enough stand (suc n) (suc m) workers r a b = by (next_task workers r) refl (λ all rest. enough stand n m all rest)
  where
    on : (t : Option Task) (rest : Rest) → length rest.bytes < length r.bytes → ((all : List (List Job)) (rest : Rest) → length rest.bytes ≤ n → length rest.bytes ≤ m → jobs_from n all rest ≡ jobs_from m all rest) →
        onward n workers (t, rest) ≡ onward m workers (t, rest)
    on None rest few k = refl
    on (Some t) rest few k = k (with_job workers t.0 t.1) rest (omega (arith, few, a)) (omega (arith, few, b))

    by : (x : Reading (Option Task)) → next_task workers r ≡ x → ((all : List (List Job)) (rest : Rest) → length rest.bytes ≤ n → length rest.bytes ≤ m → jobs_from n all rest ≡ jobs_from m all rest) →
        (x >>= onward n workers) ≡ (x >>= onward m workers)
    by (Err e) h k = refl
    by (Ok p) h k = on p.0 p.1 (task_fewer stand workers r p h) k

pub task_refused : (n : ℕ) (workers : List (List Job)) (r : Rest) (e : InputFault) (all : Reading (List (List Job))) → length r.bytes ≤ n → jobs_from n workers r ≡ all → Refused e (next_task workers r) → Refused e all
task_refused n workers r e all room is h = free (is_memory e) (next_task workers r ≡ Err e) (all ≡ Err e) (by n room is) h
  where
    by : (n : ℕ) → length r.bytes ≤ n → jobs_from n workers r ≡ all → next_task workers r ≡ Err e → all ≡ Err e
    by zero room is k = sym is ∙ ap (λ x. x >>= onward zero workers) (sym (at_end workers r room) ∙ k)
    by (suc n) room is k = sym is ∙ ap (λ x. x >>= onward n workers) k

pub jobs_end : RecordsStand → (n : ℕ) (workers : List (List Job)) (r rest : Rest) (all : Reading (List (List Job))) → length r.bytes ≤ n → jobs_from n workers r ≡ all → next_task workers r ≡ Ok (None, rest) → all ≡ Ok (workers, rest)
jobs_end stand zero workers r rest all room is e = let few = task_fewer stand workers r (None, rest) e in absurd (omega (arith, few, room))
jobs_end stand (suc n) workers r rest all room is e = sym is ∙ ap (λ x. x >>= onward n workers) e

pub task_more : RecordsStand → (n m : ℕ) (workers new : List (List Job)) (task : Task) (r rest : Rest) (all : Reading (List (List Job))) → length r.bytes ≤ n → length rest.bytes ≤ m → jobs_from n workers r ≡ all →
    next_task workers r ≡ Ok (Some task, rest) → new ≡ with_job workers task.0 task.1 → jobs_from m new rest ≡ all
task_more stand n m workers new task r rest all room left is e grown = by n room is
  where
    by : (n : ℕ) → length r.bytes ≤ n → jobs_from n workers r ≡ all → jobs_from m new rest ≡ all
    by zero room is = let few = task_fewer stand workers r (Some task, rest) e in absurd (omega (arith, few, room))
    by (suc n) room is =
        let few = task_fewer stand workers r (Some task, rest) e in
        ap (λ w. jobs_from m w rest) grown
        ∙ enough stand m n (with_job workers task.0 task.1) rest left (omega (arith, few, room))
        ∙ sym (ap (λ x. x >>= onward n workers) e) ∙ is
