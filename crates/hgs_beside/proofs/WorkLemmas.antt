-- What the result of a session says of its history.
use Rattle.std.proofs.Common.{◌≡◌, ℕ, List, [], Some, Option, sym, subst, inl}
use Rattle.std.specs.Prelude.{IfOk, Ok, Err, Result}
use Rattle.std.specs.List.{AllByRecursion}
use Rattle.hgs_files.specs.Tree.{Tree, after_all}
use Rattle.hgs_files.specs.declared.op.Op.{Op}
use Rattle.hgs_history.specs.Kept.{KeepsHistory}
use Rattle.hgs_legal.specs.ListsPaths.{ListsOnlyPaths, ListsPaths}
use Rattle.hgs_model.specs.Repo.{Repo}
use Rattle.hgs_script.specs.Script.{IsShare}
use Rattle.hgs_script.specs.declared.job.Job.{Job}
use Rattle.hgs_script.specs.declared.result.SessionResult.{SessionResult}
use Rattle.hgs_session.specs.Calls.{Beginning, Call, Makes, Stage}
use Rattle.hgs_session.specs.Session.{BeginsAt, BeginsOver, Comes, EndState, IsSession, Tells}
use Rattle.hgs_session.specs.declared.session.NoResult.{NoResult}
use Rattle.hgs_stands.specs.Stands.{Stands}
use Rattle.hgs_beside.specs.Keeps.{Keeps}

-- what the crate below says of a session that has a result
abbrev pub KeepsLaw : Type 0
KeepsLaw = (x : Beginning) (r : Repo) (calls : List Call) (last : Stage) (states : List EndState) (result : SessionResult) (makes : Makes x calls last) → IsSession x calls last states result → Stands x.start r → x.first.log ≡ Some [] → AllByRecursion IsShare x.jobs → ListsPaths x.start r → KeepsHistory x r calls last makes result

pub keeps : (law : KeepsLaw) (x : Beginning) (jobs : List (List Job)) (log : Option (List Op)) (start : Tree) (faults denied : ℕ) (old : List Op) {IsLeft : Stage → Type 0} {IsCounted : Stage → List EndState → Type 0} {told : Result SessionResult NoResult} → AllByRecursion IsShare jobs
    → log ≡ Some old → ListsOnlyPaths (after_all old start) → BeginsOver x jobs log start faults denied → (came : Comes x IsLeft IsCounted told) → IfOk told (Keeps x came.calls came.last came.makes)
keeps law x jobs log start faults denied old {IsLeft} {IsCounted} {told} shares is lists over came = by told came.told
  where
    begins : (x.first.log ≡ Some []) × (x.start ≡ after_all old start)
    begins = subst (λ l. BeginsAt x l start) is over.log_is

    by : (told : Result SessionResult NoResult) → IfOk told (λ r. Tells x came.calls came.last IsCounted r) → IfOk told (Keeps x came.calls came.last came.makes)
    by (Ok result) tells = λ r stands.
        law x r came.calls came.last tells.states result came.makes tells.is stands begins.0 (subst (AllByRecursion IsShare) (sym over.jobs_are) shares)
        (subst (λ t. ListsPaths t r) (sym begins.1) (lists r (inl (subst (λ t. Stands t r) begins.1 stands))))
    by (Err e) none = tt
