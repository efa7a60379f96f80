-- The ends of workers, one after another.
use Rattle.std.proofs.Common.{◌≡◌, ℕ, suc, ◌+◌, Bool, false, true, List, [], ◌∷◌, ◌++◌, length, map, Option, Some, None, Result, Ok, Err, slice_get, refl, ap, sym, ◌∙◌, subst, arith}
use Rattle.std.specs.Prelude.{All, IfOk, IfSome, IsOk, fold}
use Rattle.std.proofs.Math.Logic.{∥∥₁_elim, ∥∥₁_map, ∥∥₁_prop}
use Rattle.std.proofs.lemmas.List.{map_push}
use Rattle.std.proofs.lemmas.List.Folds.{fold-map}
use mathlib.Core.List.{IsPrefix}
use Rattle.std.specs.List.{AllByRecursion}
use Rattle.hgs_files.specs.declared.op.Op.{Op}
use Rattle.hgs_files.specs.declared.yard.Left.{Left}
use Rattle.hgs_files.specs.declared.yard.Left.TheVariants.{Whole, Parts}
use Rattle.hgs_files.specs.Ends.{Begins, EndsWithin, Follow, total_of}
use Rattle.hgs_files.specs.Reads.{counted}
use Rattle.hgs_files.specs.Ties.{Ties}
use Rattle.hgs_files.specs.Tree.{Tree}
use Rattle.hgs_script.specs.declared.job.Job.{Job}
use Rattle.hgs_script.specs.declared.result.Answered.{Answered}
use Rattle.hgs_script.specs.declared.result.PublishedJob.{PublishedJob}
use Rattle.hgs_script.specs.declared.result.SessionResult.{SessionResult}
use Rattle.hgs_session.specs.declared.session.NoResult.{NoResult}
use Rattle.hgs_session.specs.Calls.{Beginning, Call, Stage}
use Rattle.hgs_session.specs.Desk.{HasMade}
use Rattle.hgs_session.specs.Jobs.{HasDone, Progress}
use Rattle.hgs_session.specs.Session.{AreCounted, AreOfOneStart, AreOfStart, Comes, EndState, EndedFrom, HasEnded, IsWithin, LeftAs, RestsOn, changes_in, count_of, state_of}
use Rattle.hgs_session.proofs.JobLemmas.{done_on}

pub ended_more : (x : Beginning) (worker : ℕ) (calls : List Call) (states : List EndState) (replies : List (List Answered)) (m : EndState) (a : List Answered)
    → EndedFrom x worker calls states replies → HasEnded x (worker + length replies) calls m a → EndedFrom x worker calls (states ++ m ∷ []) (replies ++ a ∷ [])
ended_more x worker calls [] [] m a e h = (subst (λ (n : ℕ). HasEnded x n calls m a) (omega arith) h, tt)
ended_more x worker calls [] (b ∷ replies) m a e h = absurd e
ended_more x worker calls (n ∷ states) [] m a e h = absurd e
ended_more x worker calls (n ∷ states) (b ∷ replies) m a e h =
    (e.0, ended_more x (suc worker) calls states replies m a e.1 (subst (λ (k : ℕ). HasEnded x k calls m a) (omega arith) h))

pub kept_of : {R : Type 0} (state : R → EndState) (x : Beginning) (calls : List Call) (n : ℕ) (rs rs' : List R) (r : R) (replies replies' : List (List Answered)) (a : List Answered)
    → n ≡ length replies → rs' ≡ rs ++ r ∷ [] → replies' ≡ replies ++ a ∷ [] → ∥ HasEnded x n calls (state r) a ∥₁ → ∥ EndedFrom x 0 calls (map state rs) replies ∥₁ → ∥ EndedFrom x 0 calls (map state rs') replies' ∥₁
kept_of state x calls n rs rs' r replies replies' a count ends all ended were =
    let N : ℕ → Type 0 = λ k. HasEnded x k calls (state r) a in
    let M : List EndState → Type 0 = λ states. EndedFrom x 0 calls states replies' in
    let A : List (List Answered) → Type 0 = λ l. EndedFrom x 0 calls (map state rs ++ state r ∷ []) l in
    let same : n ≡ 0 + length replies = count ∙ omega arith in
    ∥∥₁_elim ended ∥∥₁_prop (λ h. ∥∥₁_map were (λ e.
    subst M (sym (ap (map state) ends ∙ map_push state rs r)) (subst A (sym all) (ended_more x 0 calls (map state rs) replies (state r) a e (subst N same h)))))

-- what each end saw and was told begins the log
pub within_all : {R : Type 0} (state : R → EndState) (log : Option (List Op)) (rs : List R) → All (λ r. EndsWithin log (state r).seen (state r).told) rs → AllByRecursion (IsWithin log) (map state rs)
within_all state log [] h = tt
within_all state log (r ∷ rs) h = (h 0 r (omega arith), within_all state log rs (λ k d lt. h (suc k) d (omega arith)))

-- what all of some ends have counted
pub totals : {R : Type 0} (state : R → EndState) (count : EndState → ℕ) (rs : List R) → total_of count (map state rs) ≡ total_of (λ r. count (state r)) rs
totals state count rs = fold-map (λ n m. counted n (count m)) state 0 rs

total_same : {R : Type 0} (count other : R → ℕ) → ((r : R) → count r ≡ other r) → (rs : List R) → total_of count rs ≡ total_of other rs
total_same {R} count other same rs = from 0 rs
  where
    from : (n : ℕ) (rs : List R) → fold (λ n r. counted n (count r)) n rs ≡ fold (λ n r. counted n (other r)) n rs
    from n [] = refl
    from n (r ∷ rs) = ap (λ k. fold (λ n r. counted n (count r)) (counted n k) rs) (same r) ∙ from (counted n (other r)) rs

-- a worker that has done all its jobs, by a front of the history
pub ended_of : (x : Beginning) (jobs : List (List Job)) (own number : ℕ) (calls all : List Call) (now : Progress) (answers : List Answered) (its : List Job) → jobs ≡ x.jobs → own ≡ number → IsPrefix calls all → HasDone x own calls now answers
    → now.done ≡ length its → slice_get jobs number ≡ Some its → HasEnded x number all (state_of now) answers
ended_of x jobs own number calls all now answers its are same pre h done there =
    let P : ℕ → Type 0 = λ n. HasDone x n all now answers in
    record {
      now = now;
      done = subst P same (done_on x own calls all now answers pre h);
      all = done ∙ sym (ap count_of (ap (λ (l : List (List Job)). slice_get l number) (sym are) ∙ there));
      state_is = refl;
    }

-- what a result has to say of what was listed
abbrev pub IsListed : {R : Type 0} → (R → EndState) → Beginning → List Call → List PublishedJob → Option (ℕ × ℕ) → Bool → List R → SessionResult → Type 0
IsListed state x history published unsure broken rs r =
    (broken ≡ false) × (length history ≡ changes_in x.jobs) × (r.published ≡ published) × (r.unsure ≡ unsure) × (length r.replies ≡ length x.jobs)
    × ∥ EndedFrom x 0 history (map state rs) r.replies ∥₁

pub comes_of : {R : Type 0} (state : R → EndState) (x : Beginning) (now : Stage) (history : List Call) (published : List PublishedJob) (unsure : Option (ℕ × ℕ)) (broken : Bool) (rs : List R) (IsLeft : Stage → Type 0) (IsCounted : Stage → List EndState → Type 0) (res : Result SessionResult NoResult)
    → ∥ HasMade x now history published unsure broken ∥₁ → IsLeft now → IfOk res (λ r. IsListed state x history published unsure broken rs r × All (λ e. EndsWithin now.log (state e).seen (state e).told) rs) → (IsOk res → IsCounted now (map state rs)) → ∥ Comes x IsLeft IsCounted res ∥₁
comes_of state x now history published unsure broken rs IsLeft IsCounted (Ok r) made left h counts =
    let l = h.0 in
    ∥∥₁_elim made ∥∥₁_prop (λ m. ∥∥₁_map l.5 (λ e.
    let same : m.calls ≡ history = m.history_is l.0 in
    let E : List Call → Type 0 = λ calls. EndedFrom x 0 calls (map state rs) r.replies in
    record {
      last = now;
      calls = m.calls;
      makes = m.makes;
      order = m.order;
      left = left;
      told = record {
        states = map state rs;
        is = record {
          all = ap length same ∙ l.1;
          published = l.2 ∙ m.published_is l.0;
          unsure = l.3 ∙ m.unsure_is l.0;
          workers = l.4;
          replies = subst E (sym same) e;
          within = within_all state now.log rs h.1;
        };
        counts = counts refl;
      };
    }))
comes_of state x now history published unsure broken rs IsLeft IsCounted (Err e) made left h counts = ∥∥₁_map made (λ m. record { last = now; calls = m.calls; makes = m.makes; order = m.order; left = left; told = tt })

-- what is left, by what holds of it
pub left_as : {Y A Rest Front W R : Type 0} {OfYard OfYard' : Y → Type 0} {OfEnd OfEnd' : W → Type 0} → (left : Left Y A Rest Front W R) → ((y : Y) → OfYard y → OfYard' y) → ((w : W) → OfEnd w → OfEnd' w) → LeftAs left OfYard OfEnd → LeftAs left OfYard' OfEnd'
left_as (Whole y) f g h = f y h
left_as (Parts w rs) f g h = g w h

-- the log at rest goes on by that of the writing end
pub rests_on : (ties : Ties) (earlier : Option (List Op)) (start : Tree) → ties.earlier ≡ earlier → ties.earlier_start ≡ start → (wrote new : Option (List Op)) (new_start : Tree) → Follow ties wrote new new_start → RestsOn earlier start wrote new new_start
rests_on ties None start e s wrote new new_start f = tt
rests_on ties (Some old) start e s None new new_start f = tt
rests_on ties (Some old) start e s (Some more) new new_start f =
    let P : Option (List Op) → Type 0 = λ o. IfSome o (λ l. (new ≡ Some (l ++ more)) × (new_start ≡ ties.earlier_start)) in
    let h = subst P e f in
    (h.0, h.1 ∙ s)

-- what is told is what was listed
pub listed_of : {R : Type 0} (state : R → EndState) (x : Beginning) (now : Stage) (history : List Call) (published : List PublishedJob) (unsure : Option (ℕ × ℕ)) (broken : Bool) (rs : List R) (replies : List (List Answered)) (whole : Bool) (jobs : List (List Job)) (given res : Result SessionResult NoResult)
    → jobs ≡ x.jobs → (whole ≡ true → ∥ EndedFrom x 0 history (map state rs) replies ∥₁) → (whole ≡ true → length replies ≡ length jobs)
    → IfOk given (λ r. (broken ≡ false) × (whole ≡ true)) → IfOk given (λ r. length history ≡ changes_in jobs) → IfOk given (λ r. r.published ≡ published) → IfOk given (λ r. r.unsure ≡ unsure) → IfOk given (λ r. r.replies ≡ replies)
    → IfOk res (λ r. given ≡ Ok r) → IfOk res (λ r. All (λ e. EndsWithin now.log (state e).seen (state e).told) rs)
    → IfOk res (λ r. IsListed state x history published unsure broken rs r × All (λ e. EndsWithin now.log (state e).seen (state e).told) rs)
listed_of state x now history published unsure broken rs replies whole jobs given (Err e) are ended count sound all pub_is unsure_is replies_is same within = tt
listed_of state x now history published unsure broken rs replies whole jobs given (Ok r) are ended count sound all pub_is unsure_is replies_is same within =
    let S : Result SessionResult NoResult → Type 0 = λ z. IfOk z (λ r. (broken ≡ false) × (whole ≡ true)) in
    let A : Result SessionResult NoResult → Type 0 = λ z. IfOk z (λ r. length history ≡ changes_in jobs) in
    let P : Result SessionResult NoResult → Type 0 = λ z. IfOk z (λ r. r.published ≡ published) in
    let U : Result SessionResult NoResult → Type 0 = λ z. IfOk z (λ r. r.unsure ≡ unsure) in
    let Q : Result SessionResult NoResult → Type 0 = λ z. IfOk z (λ r. r.replies ≡ replies) in
    let s = subst S same sound in
    let q : r.replies ≡ replies = subst Q same replies_is in
    let E : List (List Answered) → Type 0 = λ l. ∥ EndedFrom x 0 history (map state rs) l ∥₁ in (
      (
        s.0,
        subst A same all ∙ ap changes_in are,
        subst P same pub_is,
        subst U same unsure_is,
        ap length q ∙ (count s.1 ∙ ap length are),
        subst E (sym q) (ended s.1),
      ),
      within,
    )

-- where the yard is whole, its counts are those of the ends
pub counts_of : {Y A Rest Front W R S : Type 0} (faults_at denied_at : Y → ℕ) (faults_of denied_of : S → ℕ) (state : S → EndState) (now : Stage) (rs : List S) (left : Left Y A Rest Front W R) → ((s : S) → ((state s).faults ≡ faults_of s) × ((state s).denied ≡ denied_of s))
    → LeftAs left (λ y. (faults_at y ≡ counted now.faults (total_of faults_of rs)) × (denied_at y ≡ counted now.denied (total_of denied_of rs))) (λ w. Unit {0})
    → LeftAs left (λ y. AreCounted now (map state rs) (faults_at y) (denied_at y)) (λ w. Unit {0})
counts_of faults_at denied_at faults_of denied_of state now rs (Parts w r) same h = tt
counts_of faults_at denied_at faults_of denied_of state now rs (Whole y) same h =
    let F : total_of (λ (m : EndState). m.faults) (map state rs) ≡ total_of faults_of rs = totals state (λ (m : EndState). m.faults) rs ∙ total_same (λ s. (state s).faults) faults_of (λ s. (same s).0) rs in
    let D : total_of (λ (m : EndState). m.denied) (map state rs) ≡ total_of denied_of rs = totals state (λ (m : EndState). m.denied) rs ∙ total_same (λ s. (state s).denied) denied_of (λ s. (same s).1) rs in
    record { faults_are = h.0 ∙ ap (counted now.faults) (sym F); denied_are = h.1 ∙ ap (counted now.denied) (sym D) }

-- ---- ends that could not be put together

pub of_start : {R : Type 0} (was : Ties) (earlier : Option (List Op)) (start : Tree) (lead : Ties) (ties : R → Ties) (rs : List R) → was.earlier ≡ earlier → was.earlier_start ≡ start → AreOfStart was.earlier was.earlier_start lead ties rs → AreOfStart earlier start lead ties rs
of_start was earlier start lead ties rs e s h = (h.0 ∙ e, h.1 ∙ s, h.2)

pub of_one_start : {R : Type 0} (log : Option (List Op)) (start : Tree) (first : Option (List Op)) (first_start : Tree) (was lead : Ties) (ties : R → Ties) (rs : List R) → Begins log start first first_start was → AreOfStart was.earlier was.earlier_start lead ties rs → AreOfOneStart log start lead ties rs
of_one_start None start first first_start was lead ties rs b h = (tt, h.2)
of_one_start (Some old) start first first_start was lead ties rs b h = ((h.0 ∙ b.2, h.1 ∙ b.3), h.2)
