-- Each writing job is one of a session's calls.
use Rattle.std.proofs.Common.{◌≡◌, ◌≤◌, ◌<◌, ℕ, zero, suc, ◌+◌, List, [], ◌∷◌, ◌++◌, length, drop, Option, Some, slice_get, refl, ap, sym, ◌∙◌, subst, arith, length-append}
use Rattle.std.specs.Prelude.{sum_by}
use Rattle.std.specs.List.{FoldsTo}
use Rattle.std.proofs.lemmas.List.Sums.{sum_by-cons}
use Rattle.hgs_answers.specs.Answer.{status_of}
use Rattle.hgs_files.specs.Reads.{Rose, greatest}
use Rattle.hgs_questions.specs.Said.{IsStatus}
use Rattle.hgs_script.specs.declared.job.Job.{Job}
use Rattle.hgs_script.specs.declared.job.Job.TheVariants.{Ask, Change}
use Rattle.hgs_script.specs.declared.result.Answered.{Answered}
use Rattle.hgs_session.specs.Calls.{Beginning, Call, job_among, job_in, one_if_change}
use Rattle.hgs_session.specs.Jobs.{DoesJob, Progress, asks, changes}
use Rattle.hgs_session.specs.Session.{EndState, EndedFrom, HasEnded, changes_among, changes_in, count_of}
use Rattle.hgs_history.specs.Once.{AreCallsFrom, AreCallsOf, calls_by, how_many, none_left, was_asked, was_made}
use Rattle.hgs_history.proofs.Keyed.{of_key-found, ones, splits, weight_from, whole}

-- ---- lists

-- where an item stands, a list has two parts beside it
parted : {A : Type 0} (xs : List A) (m n : ℕ) (x : A) → m ≤ n → slice_get xs n ≡ Some x → (first : List A) × (drop m xs ≡ first ++ x ∷ drop (suc n) xs)
parted [] m n x le e = absurd (cc e)
parted (y ∷ xs) zero zero x le e = ([], cc e)
parted (y ∷ xs) zero (suc n) x le e = let r = parted xs zero n x (omega arith) e in (y ∷ r.0, ap (λ l. y ∷ l) r.1)
parted (y ∷ xs) (suc m) zero x le e = absurd (omega (arith, le))
parted (y ∷ xs) (suc m) (suc n) x le e = parted xs m n x (omega (arith, le)) e

at-head : {A : Type 0} (xs : List A) (n : ℕ) (x : A) → slice_get xs n ≡ Some x → drop n xs ≡ x ∷ drop (suc n) xs
at-head [] n x e = absurd (cc e)
at-head (y ∷ xs) zero x e = cc e
at-head (y ∷ xs) (suc n) x e = at-head xs n x e

standing : {A : Type 0} (xs : List A) (n : ℕ) (x : A) (ys : List A) → drop n xs ≡ x ∷ ys → slice_get xs n ≡ Some x
standing [] zero x ys e = cc e
standing [] (suc n) x ys e = cc e
standing (y ∷ xs) zero x ys e = cc e
standing (y ∷ xs) (suc n) x ys e = standing xs n x ys e

behind : {A : Type 0} (xs : List A) (n : ℕ) (x : A) (ys : List A) → drop n xs ≡ x ∷ ys → drop (suc n) xs ≡ ys
behind [] zero x ys e = absurd (cc e)
behind [] (suc n) x ys e = absurd (cc e)
behind (y ∷ xs) zero x ys e = cc e
behind (y ∷ xs) (suc n) x ys e = behind xs n x ys e

all-gone : {A : Type 0} (xs : List A) → drop (length xs) xs ≡ []
all-gone [] = refl
all-gone (x ∷ xs) = all-gone xs

no-shorter : {A : Type 0} (xs : List A) → 0 ≡ length xs → [] ≡ xs
no-shorter [] e = refl
no-shorter (x ∷ xs) e = absurd (omega (arith, e))

-- a list that is as long as another with more before it has nothing before it
as-long : {A : Type 0} (first mine rest : List A) (x : A) → length mine ≤ length rest → length (x ∷ mine) ≡ length (first ++ x ∷ rest) → (length mine ≡ length rest) × (first ≡ [])
as-long [] mine rest x le e = (omega (arith, e), refl)
as-long (y ∷ first) mine rest x le e = absurd (let l = length-append first (x ∷ rest) in omega (arith, le, e, l))

-- ---- a worker

-- what an answer weighs by its status, and a call by that of its answer
module _ (weight : ℕ → ℕ) (reads : (status p q : ℕ) → IsStatus status → p ≤ q → q < greatest → (status ≡ 16 → Rose p q) → p + weight status ≤ q) where
  abbrev pub said-weighs : Answered → ℕ
  said-weighs a = weight a.status

  abbrev pub call-weighs : Call → ℕ
  call-weighs c = weight (status_of c.answer.outcome)

  module _ (x : Beginning) (worker : ℕ) (calls : List Call) (its : List Job) (its-are : slice_get x.jobs worker ≡ Some its) where
    -- the calls of the worker from here on, of which there are as many as jobs that write
    record Own (p now : Progress) (answers : List Answered) : Type 0 where
      mine : List Call
      are : AreCallsOf x.jobs worker p.done answers mine
      few : length mine ≤ length (calls_by worker (drop p.place calls))
      all : length mine ≡ length (calls_by worker (drop p.place calls)) → mine ≡ calls_by worker (drop p.place calls)
      count : length mine + changes_among (drop now.done its) ≡ changes_among (drop p.done its)
      later : p.faults ≤ now.faults
      weighs : now.faults < greatest → p.faults + sum_by said-weighs answers ≤ now.faults + sum_by call-weighs mine

    job-at : (n : ℕ) (job : Job) → job_in x.jobs worker n ≡ Some job → changes_among (drop n its) ≡ one_if_change job + changes_among (drop (suc n) its)
    job-at n job e =
        let there : slice_get its n ≡ Some job = subst (λ (o : Option (List Job)). job_among o n ≡ Some job) its-are e in
        ap changes_among (at-head its n job there) ∙ sum_by-cons one_if_change job (drop (suc n) its)

    none : (p now : Progress) → p ≡ now → Own p now []
    none p now e = record {
      mine = [];
      are = none_left p.done;
      few = omega arith;
      all = no-shorter (calls_by worker (drop p.place calls));
      count = let c = ap (λ (q : Progress). changes_among (drop q.done its)) e in omega (arith, c);
      later = subst (λ (q : Progress). p.faults ≤ q.faults) e (omega arith);
      weighs = λ less. subst (λ (q : Progress). p.faults + 0 ≤ q.faults + 0) e (omega arith);
    }

    one : (p : Progress) (a : Answered) (q : Progress) (answers : List Answered) (now : Progress) → DoesJob x worker calls p a q → Own q now answers → Own p now (a ∷ answers)
    one p a _ answers now (changes command call n job place there who number says) o =
        let part = parted calls p.place n call place there in
        let rest = calls_by worker (drop (suc n) calls) in
        let before = calls_by worker part.0 in
        let found : calls_by worker (drop p.place calls) ≡ before ++ call ∷ rest = ap (calls_by worker) part.1 ∙ of_key-found (λ (c : Call). c.worker) worker part.0 (drop (suc n) calls) call who in
        let long = ap (λ (l : List Call). length l) found in
        let joined = length-append before (call ∷ rest) in
        record {
          mine = call ∷ o.mine;
          are = was_made p.done command a answers call o.mine job who number says o.are;
          few = let f = o.few in omega (arith, f, long, joined);
          all = λ e. (let both = as-long before o.mine rest call o.few (e ∙ long) in ap (λ (l : List Call). call ∷ l) (o.all both.0) ∙ (ap (λ (l : List Call). l ++ call ∷ rest) (sym both.1) ∙ sym found));
          count = let c = o.count in let j = job-at p.done (Change command) job in omega (arith, c, j);
          later = o.later;
          weighs = λ less. (let w = o.weighs less in let s = sum_by-cons said-weighs a answers in let m = sum_by-cons call-weighs call o.mine in let k = ap said-weighs says in omega (arith, w, s, m, k));
        }
    one p a q answers now (asks question _ job asked grows done place told start faults denied status fault) o =
        let P : ℕ → Type 0 = λ k. AreCallsOf x.jobs worker k answers o.mine in
        let D : ℕ → Type 0 = λ k. length o.mine ≤ length (calls_by worker (drop k calls)) in
        let E : ℕ → Type 0 = λ k. length o.mine ≡ length (calls_by worker (drop k calls)) → o.mine ≡ calls_by worker (drop k calls) in
        let C : ℕ → Type 0 = λ k. length o.mine + changes_among (drop now.done its) ≡ changes_among (drop k its) in
        record {
          mine = o.mine;
          are = was_asked p.done question a answers o.mine job (subst P done o.are);
          few = subst D place o.few;
          all = subst E place o.all;
          count = let c = subst C done o.count in let j = job-at p.done (Ask question) job in omega (arith, c, j);
          later = let l = o.later in omega (arith, faults, l);
          weighs = λ less. (let l = o.later in let w = o.weighs less in let s = sum_by-cons said-weighs a answers in let r = reads a.status p.faults q.faults status faults (omega (arith, l, less)) fault in omega (arith, w, s, r));
        }

    own : (p : Progress) (answers : List Answered) (now : Progress) → FoldsTo (DoesJob x worker calls) p answers now → Own p now answers
    own p [] now does = none p now does
    own p (a ∷ answers) now does = one p a does.0 answers now does.1 (own does.0 answers now does.2)

    -- all of a worker's jobs
    record Mine (state : EndState) (answers : List Answered) : Type 0 where
      mine : List Call
      are : AreCallsOf x.jobs worker 0 answers mine
      few : length mine ≤ length (calls_by worker calls)
      all : length mine ≡ length (calls_by worker calls) → mine ≡ calls_by worker calls
      count : length mine ≡ changes_among its
      weighs : state.faults < greatest → sum_by said-weighs answers ≤ state.faults + sum_by call-weighs mine

    mine-of : (state : EndState) (answers : List Answered) → HasEnded x worker calls state answers → Mine state answers
    mine-of state answers ended =
        let d = ended.done in
        let o = own d.first answers ended.now d.does in
        let F : ℕ → Type 0 = λ k. AreCallsOf x.jobs worker k answers o.mine in
        let D : ℕ → Type 0 = λ k. length o.mine ≤ length (calls_by worker (drop k calls)) in
        let E : ℕ → Type 0 = λ k. length o.mine ≡ length (calls_by worker (drop k calls)) → o.mine ≡ calls_by worker (drop k calls) in
        let all-done : drop ended.now.done its ≡ [] = ap (λ (k : ℕ). drop k its) (ended.all ∙ ap count_of its-are) ∙ all-gone its in
        let first-done : drop d.first.done its ≡ its = ap (λ (k : ℕ). drop k its) d.fresh.done in
        record {
          mine = o.mine;
          are = subst F d.fresh.done o.are;
          few = subst D d.fresh.place o.few;
          all = subst E d.fresh.place o.all;
          count = let c = o.count in let a = ap changes_among all-done in let f = ap changes_among first-done in omega (arith, c, a, f);
          weighs = λ less. (let same = ap (λ (s : EndState). s.faults) ended.state_is in let w = o.weighs (omega (arith, less, same)) in let z = d.fresh.faults in omega (arith, w, same, z));
        }

  -- ---- all workers

  abbrev one-each : Call → ℕ
  one-each c = 1

  abbrev worker-of : Call → ℕ
  worker-of c = c.worker

  module _ (x : Beginning) (calls : List Call) where
    record Each (jobs : List (List Job)) (worker : ℕ) (states : List EndState) (replies : List (List Answered)) : Type 0 where
      few : changes_in jobs ≤ weight_from worker-of one-each worker calls
      called : changes_in jobs ≡ weight_from worker-of one-each worker calls → AreCallsFrom x.jobs worker calls replies
      weighs : changes_in jobs ≡ weight_from worker-of one-each worker calls → sum_by (λ (s : EndState). s.faults) states < greatest
          → how_many weight replies ≤ weight_from worker-of call-weighs worker calls + sum_by (λ (s : EndState). s.faults) states

    each-of : (jobs : List (List Job)) (worker : ℕ) (states : List EndState) (replies : List (List Answered)) → drop worker x.jobs ≡ jobs → length replies ≡ length jobs → EndedFrom x worker calls states replies → Each jobs worker states replies
    each-of [] worker [] [] at same ended = record { few = omega arith; called = λ e. tt; weighs = λ e less. omega arith }
    each-of (its ∷ jobs) worker (s ∷ states) (a ∷ replies) at same ended =
        let its-are = standing x.jobs worker its jobs at in
        let m = mine-of x worker calls its its-are s a ended.0 in
        let rest = each-of jobs (suc worker) states replies (behind x.jobs worker its jobs at) (omega (arith, same)) ended.1 in
        let parts = splits worker-of one-each worker calls in
        let own = ones (calls_by worker calls) in
        let c = sum_by-cons changes_among its jobs in
        let f = m.few in let k = m.count in let g = rest.few in
        record {
          few = omega (arith, parts, own, c, f, k, g);
          called = λ e. (subst (λ (l : List Call). AreCallsOf x.jobs worker 0 a l) (m.all (omega (arith, parts, own, c, f, k, g, e))) m.are, rest.called (omega (arith, parts, own, c, f, k, g, e)));
          weighs = λ e less. (
              let all-are = m.all (omega (arith, parts, own, c, f, k, g, e)) in
              let total = sum_by-cons (λ (t : EndState). t.faults) s states in
              let w = m.weighs (omega (arith, less, total)) in
              let same-weight = ap (sum_by call-weighs) all-are in
              let r = rest.weighs (omega (arith, parts, own, c, f, k, g, e)) (omega (arith, less, total)) in
              let both = splits worker-of call-weighs worker calls in
              let said = sum_by-cons (λ (l : List Answered). sum_by said-weighs l) a replies in
              omega (arith, total, w, same-weight, r, both, said));
        }
    each-of [] worker states (a ∷ replies) at same ended = absurd (omega (arith, same))
    each-of (its ∷ jobs) worker states [] at same ended = absurd (omega (arith, same))
    each-of [] worker (s ∷ states) [] at same ended = absurd ended
    each-of (its ∷ jobs) worker [] (a ∷ replies) at same ended = absurd ended

    all-of : length calls ≡ changes_in x.jobs → changes_in x.jobs ≡ weight_from worker-of one-each 0 calls
    all-of many = sym (whole worker-of one-each calls ∙ (ones calls ∙ many))

    -- as many calls as there are jobs that write
    pub session-calls : (states : List EndState) (replies : List (List Answered)) → length calls ≡ changes_in x.jobs → length replies ≡ length x.jobs → EndedFrom x 0 calls states replies → AreCallsFrom x.jobs 0 calls replies
    session-calls states replies many same ended = (each-of x.jobs 0 states replies refl same ended).called (all-of many)

    pub session-weighs : (states : List EndState) (replies : List (List Answered)) → length calls ≡ changes_in x.jobs → length replies ≡ length x.jobs → EndedFrom x 0 calls states replies → sum_by (λ (s : EndState). s.faults) states < greatest
        → how_many weight replies ≤ sum_by call-weighs calls + sum_by (λ (s : EndState). s.faults) states
    session-weighs states replies many same ended less =
        let w = (each-of x.jobs 0 states replies refl same ended).weighs (all-of many) less in
        let all = whole worker-of call-weighs calls in
        omega (arith, w, all)
