-- Whose the jobs of a script are.
use Rattle.std.proofs.Common.{◌≡◌, ℕ, zero, suc, ◌+◌, ◌<◌, ◌≤◌, Bool, true, false, ◌&&◌, List, [], ◌∷◌, ◌++◌, length, refl, sym, ◌∙◌, ap, arith, length-append}
use Rattle.std.specs.Prelude.{◌==◌, nat_lt, replicate, if◌then◌else◌}
use Rattle.std.proofs.lemmas.Bool.{eqb-true, eq-eqb, le-leb, false_from_ne_true}
use Rattle.std.proofs.lemmas.List.{append-nil}
use Rattle.hgs_script.specs.declared.job.Job.{Job}
use Rattle.hgs_script.specs.Read.{Task, most_jobs, jobs_at, has_room, with_job}
use Rattle.hgs_script.specs.Script.{jobs_of, jobs_of_each, HaveRoom}
use Rattle.hgs_script.proofs.ReadLemmas.{room_is}

pub jobs_append : (worker : ℕ) (a b : List Task) → jobs_of worker (a ++ b) ≡ jobs_of worker a ++ jobs_of worker b
jobs_append worker [] b = refl
jobs_append worker (task ∷ a) b = by (task.0 == worker) (jobs_append worker a b)
  where
    by : (t : Bool) → jobs_of worker (a ++ b) ≡ jobs_of worker a ++ jobs_of worker b →
        (if t then task.1 ∷ jobs_of worker (a ++ b) else jobs_of worker (a ++ b)) ≡ (if t then task.1 ∷ jobs_of worker a else jobs_of worker a) ++ jobs_of worker b
    by true h = ap (λ l. task.1 ∷ l) h
    by false h = h

-- one more job of a worker
jobs_with : (worker : ℕ) (tasks : List Task) (job : Job) → jobs_of worker (tasks ++ (worker, job) ∷ []) ≡ jobs_of worker tasks ++ job ∷ []
jobs_with worker tasks job = jobs_append worker tasks ((worker, job) ∷ []) ∙ ap (λ t. jobs_of worker tasks ++ (if t then job ∷ [] else [])) (eq-eqb worker worker refl)

-- one more job of another
jobs_without : (worker other : ℕ) (tasks : List Task) (job : Job) → (other ≡ worker → ⊥) → jobs_of worker (tasks ++ (other, job) ∷ []) ≡ jobs_of worker tasks
jobs_without worker other tasks job apart =
    jobs_append worker tasks ((other, job) ∷ [])
    ∙ ap (λ t. jobs_of worker tasks ++ (if t then job ∷ [] else [])) (false_from_ne_true (other == worker) (λ t. apart (eqb-true other worker t)))
    ∙ append-nil (jobs_of worker tasks)

-- ---- the jobs of each

pub each_length : (first n : ℕ) (tasks : List Task) → length (jobs_of_each first n tasks) ≡ n
each_length first zero tasks = refl
each_length first (suc n) tasks = ap suc (each_length (suc first) n tasks)

pub each_none : (first n : ℕ) → replicate n [] ≡ jobs_of_each first n []
each_none first zero = refl
each_none first (suc n) = ap (λ l. [] ∷ l) (each_none (suc first) n)

each_at : (first n worker : ℕ) (tasks : List Task) → worker < n → jobs_at (jobs_of_each first n tasks) worker ≡ jobs_of (first + worker) tasks
each_at first zero worker tasks there = absurd (omega (arith, there))
each_at first (suc n) zero tasks there = let is : first ≡ first + 0 = omega arith in ap (λ k. jobs_of k tasks) is
each_at first (suc n) (suc worker) tasks there = let is : suc first + worker ≡ first + suc worker = omega arith in each_at (suc first) n worker tasks (omega (arith, there)) ∙ ap (λ k. jobs_of k tasks) is

at_first : (n worker : ℕ) (tasks : List Task) → worker < n → jobs_at (jobs_of_each 0 n tasks) worker ≡ jobs_of worker tasks
at_first n worker tasks there = let is : 0 + worker ≡ worker = omega arith in each_at 0 n worker tasks there ∙ ap (λ k. jobs_of k tasks) is

each_apart : (first n worker : ℕ) (tasks : List Task) (job : Job) → worker < first → jobs_of_each first n (tasks ++ (worker, job) ∷ []) ≡ jobs_of_each first n tasks
each_apart first zero worker tasks job below = refl
each_apart first (suc n) worker tasks job below =
    ap (λ l. l ∷ jobs_of_each (suc first) n (tasks ++ (worker, job) ∷ [])) (jobs_without first worker tasks job (λ is. omega (arith, is, below)))
    ∙ ap (λ l. jobs_of first tasks ∷ l) (each_apart (suc first) n worker tasks job (omega (arith, below)))

each_with : (first n worker : ℕ) (tasks : List Task) (job : Job) → worker < n → with_job (jobs_of_each first n tasks) worker job ≡ jobs_of_each first n (tasks ++ (first + worker, job) ∷ [])
each_with first zero worker tasks job there = absurd (omega (arith, there))
each_with first (suc n) zero tasks job there =
    let is : first ≡ first + 0 = omega arith in
    ap (λ l. l ∷ jobs_of_each (suc first) n tasks) (sym (jobs_with first tasks job))
    ∙ ap (λ l. jobs_of first (tasks ++ (first, job) ∷ []) ∷ l) (sym (each_apart (suc first) n first tasks job (omega arith)))
    ∙ ap (λ k. jobs_of_each first (suc n) (tasks ++ (k, job) ∷ [])) is
each_with first (suc n) (suc worker) tasks job there =
    let is : suc first + worker ≡ first + suc worker = omega arith in
    ap (λ l. jobs_of first tasks ∷ l) (each_with (suc first) n worker tasks job (omega (arith, there)) ∙ ap (λ k. jobs_of_each (suc first) n (tasks ++ (k, job) ∷ [])) is)
    ∙ ap (λ l. l ∷ jobs_of_each (suc first) n (tasks ++ (first + suc worker, job) ∷ [])) (sym (jobs_without first (first + suc worker) tasks job (λ is. omega (arith, is))))

-- the jobs so far with the next of one worker
pub with_next : (n : ℕ) (tasks : List Task) (task : Task) → task.0 < n → with_job (jobs_of_each 0 n tasks) task.0 task.1 ≡ jobs_of_each 0 n (tasks ++ task ∷ [])
with_next n tasks task there = let is : 0 + task.0 ≡ task.0 = omega arith in each_with 0 n task.0 tasks task.1 there ∙ ap (λ k. jobs_of_each 0 n (tasks ++ (k, task.1) ∷ [])) is

-- ---- room

pub record MayFollow (n : ℕ) (tasks : List Task) (worker : ℕ) : Type 0 where
  pub there : worker < n
  pub room : length (jobs_of worker tasks) < most_jobs

pub may_follow : (n : ℕ) (tasks : List Task) (worker : ℕ) → has_room (jobs_of_each 0 n tasks) worker ≡ true → MayFollow n tasks worker
may_follow n tasks worker e =
    let h = room_is (jobs_of_each 0 n tasks) worker e in
    let count = each_length 0 n tasks in
    let below = h.there in
    let there : worker < n = omega (arith, below, count) in
    let few = h.room in
    let same = ap length (at_first n worker tasks there) in
    record { there = there; room = omega (arith, few, same) }

pub has_room_back : (n : ℕ) (tasks : List Task) (worker : ℕ) → MayFollow n tasks worker → has_room (jobs_of_each 0 n tasks) worker ≡ true
has_room_back n tasks worker h =
    let there = h.there in
    let few = h.room in
    ap (λ k. nat_lt worker k && nat_lt (length (jobs_at (jobs_of_each 0 n tasks) worker)) most_jobs) (each_length 0 n tasks)
    ∙ ap (λ t. t && nat_lt (length (jobs_at (jobs_of_each 0 n tasks) worker)) most_jobs) (le-leb (suc worker) n there)
    ∙ ap (λ l. nat_lt (length l) most_jobs) (at_first n worker tasks there)
    ∙ le-leb (suc (length (jobs_of worker tasks))) most_jobs few

-- with one more job of a worker who had room, none has too many
pub room_with : (tasks : List Task) (task : Task) → HaveRoom tasks → length (jobs_of task.0 tasks) < most_jobs → HaveRoom (tasks ++ task ∷ [])
room_with tasks task room few worker = by (task.0 == worker) refl
  where
    by : (t : Bool) → (task.0 == worker) ≡ t → length (jobs_of worker (tasks ++ task ∷ [])) ≤ most_jobs
    by true h =
        let size = ap length (jobs_append worker tasks (task ∷ []) ∙ ap (λ t. jobs_of worker tasks ++ (if t then task.1 ∷ [] else [])) h) ∙ length-append (jobs_of worker tasks) (task.1 ∷ []) in
        let same = ap (λ k. length (jobs_of k tasks)) (eqb-true task.0 worker h) in
        omega (arith, size, same, few)
    by false h =
        let size = ap length (jobs_append worker tasks (task ∷ []) ∙ ap (λ t. jobs_of worker tasks ++ (if t then task.1 ∷ [] else [])) h) ∙ length-append (jobs_of worker tasks) [] in
        let most = room worker in
        omega (arith, size, most)

-- where none has too many in the end, the worker of a job had room for it
pub room_before : (done tasks : List Task) (task : Task) → HaveRoom (done ++ task ∷ tasks) → length (jobs_of task.0 done) < most_jobs
room_before done tasks task room =
    let most = room task.0 in
    let size = ap length (jobs_append task.0 done (task ∷ tasks) ∙ ap (λ t. jobs_of task.0 done ++ (if t then task.1 ∷ jobs_of task.0 tasks else jobs_of task.0 tasks)) (eq-eqb task.0 task.0 refl)) ∙ length-append (jobs_of task.0 done) (task.1 ∷ jobs_of task.0 tasks) in
    omega (arith, most, size)
