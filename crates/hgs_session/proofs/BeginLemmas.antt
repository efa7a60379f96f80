-- The beginning of a session.
use Rattle.std.proofs.Common.{◌≡◌, ℕ, List, [], Option, Some, None, Result, refl, ap, sym, subst}
use Rattle.std.specs.Prelude.{All}
use Rattle.std.proofs.lemmas.List.{append-nil}
use Rattle.hgs_files.specs.declared.op.Op.{Op}
use Rattle.hgs_files.specs.Ends.{Begins, BeginsBeside}
use Rattle.hgs_files.specs.Ties.{Ties}
use Rattle.hgs_files.specs.Tree.{Tree, after_all}
use Rattle.hgs_script.specs.declared.job.Job.{Job}
use Rattle.hgs_script.specs.declared.result.SessionResult.{SessionResult}
use Rattle.hgs_session.specs.declared.session.NoResult.{NoResult}
use Rattle.hgs_session.specs.Calls.{Beginning, Stage}
use Rattle.hgs_session.specs.Session.{BeginsOver, Comes, EndState, IsNew, RestsOn}

-- what a start begins with
pub begun : (jobs : List (List Job)) (old : Option (List Op)) (start : Tree) (faults denied : ℕ) (log : Option (List Op)) (first : Tree) (f d : ℕ) (ties : Ties)
    → Begins old start log first ties → (f ≡ faults) × (d ≡ denied) → BeginsOver (record { jobs = jobs; start = first; first = record { log = log; faults = f; denied = d } }) jobs old start faults denied
begun jobs None start faults denied log first f d ties b c = record { jobs_are = refl; log_is = tt; faults_are = c.0; denied_are = c.1 }
begun jobs (Some old) start faults denied log first f d ties b c = record { jobs_are = refl; log_is = (b.0, b.1); faults_are = c.0; denied_are = c.1 }

pub rests_begun : (old : Option (List Op)) (start : Tree) (log : Option (List Op)) (first : Tree) (ties : Ties) → Begins old start log first ties
    → (wrote new : Option (List Op)) (new_start : Tree) → RestsOn ties.earlier ties.earlier_start wrote new new_start → RestsOn old start wrote new new_start
rests_begun None start log first ties b wrote new new_start h = tt
rests_begun (Some old) start log first ties b wrote new new_start h =
    let P : Option (List Op) → Type 0 = λ o. RestsOn o ties.earlier_start wrote new new_start in
    let Q : Tree → Type 0 = λ t. RestsOn (Some old) t wrote new new_start in
    subst Q b.3 (subst P b.2 h)

pub comes_under : (x : Beginning) (IsLeft IsLeft' : Stage → Type 0) (IsCounted : Stage → List EndState → Type 0) (result : Result SessionResult NoResult) → ((last : Stage) → IsLeft last → IsLeft' last) → Comes x IsLeft IsCounted result → Comes x IsLeft' IsCounted result
comes_under x IsLeft IsLeft' IsCounted result f c = record { last = c.last; calls = c.calls; makes = c.makes; order = c.order; left = f c.last c.left; told = c.told }

-- the reading ends of a start are new
pub new_ones : {R : Type 0} (seen : R → Option (List Op)) (starts : R → Tree) (ties : R → Ties) (faults denied : R → ℕ) (log : Option (List Op)) (first : Tree) (lead : Ties) (rs : List R)
    → All (λ r. BeginsBeside log first lead (seen r) (starts r) (ties r)) rs → All (λ r. (faults r ≡ 0) × (denied r ≡ 0)) rs → All (λ r. IsNew log first (seen r) (starts r) (ties r).told (faults r) (denied r)) rs
new_ones seen starts ties faults denied None first lead rs b c = λ k r at. (tt, (c k r at).0, (c k r at).1)
new_ones seen starts ties faults denied (Some log) first lead rs b c = λ k r at. let h = b k r at in ((h.1, h.3, h.2), (c k r at).0, (c k r at).1)

pub at_home : {R : Type 0} (seen : R → Option (List Op)) (starts : R → Tree) (ties : R → Ties) (log : Option (List Op)) (first : Tree) (lead : Ties) (rs : List R)
    → All (λ r. BeginsBeside log first lead (seen r) (starts r) (ties r)) rs → All (λ r. (ties r).home ≡ lead.home) rs
at_home seen starts ties None first lead rs b = λ k r at. b k r at
at_home seen starts ties (Some log) first lead rs b = λ k r at. (b k r at).0

-- ---- a session that did not start

abbrev pub tree_of : Option (List Op) → Tree → Tree
tree_of None start = start
tree_of (Some log) start = after_all log start

abbrev pub unbegun : List (List Job) → Option (List Op) → Tree → ℕ → ℕ → Beginning
unbegun jobs log start faults denied = record { jobs = jobs; start = tree_of log start; first = record { log = Some []; faults = faults; denied = denied } }

pub unbegun_over : (jobs : List (List Job)) (log : Option (List Op)) (start : Tree) (faults denied : ℕ) → BeginsOver (unbegun jobs log start faults denied) jobs log start faults denied
unbegun_over jobs None start faults denied = record { jobs_are = refl; log_is = tt; faults_are = refl; denied_are = refl }
unbegun_over jobs (Some log) start faults denied = record { jobs_are = refl; log_is = (refl, refl); faults_are = refl; denied_are = refl }

pub rests_unbegun : (log : Option (List Op)) (start : Tree) → RestsOn log start (Some []) log start
rests_unbegun None start = tt
rests_unbegun (Some log) start = (ap Some (sym (append-nil log)), refl)

pub rests_same : {Y : Type 0} (logs : Y → Option (List Op)) (starts : Y → Tree) (y y' : Y) → y' ≡ y → RestsOn (logs y) (starts y) (Some []) (logs y') (starts y')
rests_same {Y} logs starts y y' same =
    let P : Y → Type 0 = λ z. RestsOn (logs y) (starts y) (Some []) (logs z) (starts z) in
    subst P (sym same) (rests_unbegun (logs y) (starts y))
