-- What holds of a worker by a front of the history holds by all of it.
use Rattle.std.proofs.Common.{◌≡◌, ℕ, suc, ◌-◌, ◌<◌, List, [], ◌∷◌, ◌++◌, length, Option, Some, None, slice_get, refl, ap, sym, ◌∙◌, subst, arith, length-append}
use Rattle.std.specs.List.{FoldsTo}
use mathlib.Core.List.{IsPrefix}
use Rattle.hgs_files.specs.declared.op.Op.{Op}
use Rattle.hgs_files.specs.Ties.{Ties, told_of}
use Rattle.hgs_files.specs.Tree.{Tree}
use Rattle.hgs_load.specs.View.{View}
use Rattle.hgs_legal.specs.Theorems.Runs.{run-join}
use Rattle.hgs_model.specs.Theorems.ListedLemmas.{slice_get-last}
use Rattle.hgs_model.specs.declared.command.Command.{Command}
use Rattle.hgs_script.specs.declared.job.Job.TheVariants.{Change}
use Rattle.hgs_script.specs.declared.result.Answered.{Answered}
use Rattle.hgs_session.specs.Calls.{Beginning, Call, job_in}
use Rattle.hgs_session.specs.Desk.{IsDone}
use Rattle.hgs_session.specs.Jobs.{DoesJob, HasDone, Progress, asks, changed, changes, told_more}
use Rattle.hgs_session.proofs.Fronts.{prefix_get}

does_on : (x : Beginning) (worker : ℕ) (calls all : List Call) → IsPrefix calls all → (p : Progress) (a : Answered) (q : Progress) → DoesJob x worker calls p a q → DoesJob x worker all p a q
does_on x worker calls all pre p a _ (changes command call n job place there who number says) =
    changes command call n job place (prefix_get calls all n call pre there) who number says
does_on x worker calls all pre p a _ (asks question q job asked grows done place told start faults denied status fault) = asks question q job asked grows done place told start faults denied status fault

all_on : (x : Beginning) (worker : ℕ) (calls all : List Call) → IsPrefix calls all → (p : Progress) (answers : List Answered) (q : Progress) → FoldsTo (DoesJob x worker calls) p answers q → FoldsTo (DoesJob x worker all) p answers q
all_on x worker calls all pre p [] q h = h
all_on x worker calls all pre p (a ∷ answers) q h = (h.0, does_on x worker calls all pre p a h.0 h.1, all_on x worker calls all pre h.0 answers q h.2)

pub done_on : (x : Beginning) (worker : ℕ) (calls all : List Call) (now : Progress) (answers : List Answered) → IsPrefix calls all → HasDone x worker calls now answers → HasDone x worker all now answers
done_on x worker calls all now answers pre h = record { first = h.first; fresh = h.fresh; does = all_on x worker calls all pre h.first answers now h.does }

-- one job more
pub done_more : (x : Beginning) (worker : ℕ) (calls : List Call) (now next : Progress) (answers : List Answered) (a : Answered) → HasDone x worker calls now answers → DoesJob x worker calls now a next → HasDone x worker calls next (answers ++ a ∷ [])
done_more x worker calls now next answers a h j = record { first = h.first; fresh = h.fresh; does = run-join (DoesJob x worker calls) h.first answers (a ∷ []) now next h.does (next, j, refl) }

-- a writing job more, by a longer history that ends with its call
pub taken : (x : Beginning) (worker : ℕ) (calls all : List Call) (now next : Progress) (answers : List Answered) (a : Answered) (command : Command) (log : Option (List Op))
    → job_in x.jobs worker now.done ≡ Some (Change command) → now.place ≡ length calls → IsPrefix calls all → length calls < length all → IsDone worker now.done command log all a
    → next ≡ changed now (length all - 1) log → HasDone x worker calls now answers → HasDone x worker all next (answers ++ a ∷ [])
taken x worker calls all now next answers a command log job place pre longer d is h =
    let n : ℕ = length d.before in
    let len : length all ≡ suc n = ap length d.history_is ∙ omega (arith, length-append d.before (d.call ∷ [])) in
    let there : slice_get all n ≡ Some d.call = subst (λ (l : List Call). slice_get l n ≡ Some d.call) (sym d.history_is) (slice_get-last d.before d.call) in
    let L : Option (List Op) → Type 0 = λ o. DoesJob x worker all now a (changed now n o) in
    let does : DoesJob x worker all now a (changed now n log) = subst L d.log_is (changes command d.call n job (omega (arith, place, longer, len)) there d.worker_is d.job_is d.says) in
    let to : changed now n log ≡ next = ap (λ k. changed now k log) (omega (arith, len)) ∙ sym is in
    done_more x worker all now next answers a (done_on x worker calls all now answers pre h) (subst (λ (q : Progress). DoesJob x worker all now a q) to does)

pub told_is : (log : Option (List Op)) (ties : Ties) → (told_of log ties).told ≡ told_more log ties.told
told_is None ties = refl
told_is (Some log) ties = refl

progress_of : ℕ → ℕ → List (List Op) → Option (List Op) → Tree → Option View → ℕ → ℕ → Progress
progress_of done place told seen start view faults denied = record { done = done; place = place; told = told; seen = seen; start = start; view = view; faults = faults; denied = denied }

pub progress_is : (p q : Progress) → p.done ≡ q.done → p.place ≡ q.place → p.told ≡ q.told → p.seen ≡ q.seen → p.start ≡ q.start → p.view ≡ q.view → p.faults ≡ q.faults → p.denied ≡ q.denied → p ≡ q
unfolding progress_of
progress_is p q e0 e1 e2 e3 e4 e5 e6 e7 =
    ap (λ z. progress_of z p.place p.told p.seen p.start p.view p.faults p.denied) e0
    ∙ (ap (λ z. progress_of q.done z p.told p.seen p.start p.view p.faults p.denied) e1
    ∙ (ap (λ z. progress_of q.done q.place z p.seen p.start p.view p.faults p.denied) e2
    ∙ (ap (λ z. progress_of q.done q.place q.told z p.start p.view p.faults p.denied) e3
    ∙ (ap (λ z. progress_of q.done q.place q.told q.seen z p.view p.faults p.denied) e4
    ∙ (ap (λ z. progress_of q.done q.place q.told q.seen q.start z p.faults p.denied) e5
    ∙ (ap (λ z. progress_of q.done q.place q.told q.seen q.start q.view z p.denied) e6
    ∙ ap (λ z. progress_of q.done q.place q.told q.seen q.start q.view q.faults z) e7))))))
