-- How the machine of a writer goes on.
use Rattle.std.proofs.Common.{◌≡◌, ℕ, ◌+◌, ◌-◌, List, [], ◌∷◌, ◌++◌, length, refl, sym, ◌∙◌, ap, subst, append-nil, Bool, true, false, inl, inr, if◌then◌else◌}
use Rattle.std.specs.Prelude.{Option, Some, None, nat_lt, slice_get, unwrap_or}
use Rattle.hgs_files.specs.declared.op.Op.{Op}
use Rattle.hgs_files.specs.Reads.{IsSizeOf}
use Rattle.hgs_files.specs.Tree.{Tree, after_all, apply}
use Rattle.hgs_machine.specs.Asked.{Doing, Ending, Question, Sizing, asked, bytes_in}
use Rattle.hgs_machine.specs.Fed.{advanced, fed, fed_done, fed_failed, fed_size, is_published, stray_sized, sweeping, undoing}
use Rattle.hgs_machine.specs.SoFar.{Fits, Replies, SoFar}
use Rattle.hgs_machine.specs.declared.ended.Short.TheVariants.{Done as AllDone, Fault}
use Rattle.hgs_machine.specs.declared.machine.Machine.{Machine}
use Rattle.hgs_machine.specs.declared.machine.Reply.TheVariants.{Done, Failed, Size}
use Rattle.hgs_machine.specs.declared.machine.Stage.{Stage}
use Rattle.hgs_machine.specs.declared.machine.Stage.TheVariants as stages
use Rattle.hgs_model.specs.declared.command.Command.{Command}
use Rattle.hgs_writer.specs.declared.plan.Planned.{Planned}
use Rattle.hgs_world.specs.Moments.{HasCome, HasWorked}
use Rattle.hgs_world.specs.Parts.{HasDone}
use Rattle.hgs_world.specs.Working.{Acts, Does, IsAtNext, IsBegun, KeepsSoFar, OfOperation, Runs, RunsTo, Sizes, at_machine, no_more, not_yet, once_more, one_more}
use Rattle.hgs_world.specs.declared.working.Deed.{Deed}
use Rattle.hgs_world.specs.declared.working.Deed.TheVariants.{All, Part, Fail}
use Rattle.hgs_world.specs.declared.working.Goal.{Goal}
use Rattle.hgs_world.specs.declared.working.Working.{Working}
use Rattle.hgs_played.specs.Below.{Going}
use Rattle.hgs_played.specs.Since.{IsSure}

pub after_append : (a b : List Op) (t : Tree) → after_all (a ++ b) t ≡ after_all b (after_all a t)
after_append [] b t = refl
after_append (op ∷ a) b t = after_append a b (apply op t)

-- ---- how far it has come

-- a machine has published what the other has, and is in no doubt where that was not
pub record Onward (from m : Machine) : Type 0 where
  pub published : is_published from ≡ true → is_published m ≡ true
  pub sure : IsSure from.outcome → IsSure m.outcome

onward_same : (m : Machine) → Onward m m
onward_same m = record { published = λ h. h; sure = λ h. h }

pub onward_then : (a b c : Machine) → Onward a b → Onward b c → Onward a c
onward_then a b c x y = record { published = λ h. y.published (x.published h); sure = λ h. y.sure (x.sure h) }

if_sure : (b : Bool) (x y : Machine) → IsSure x.outcome → IsSure y.outcome → IsSure (if b then x else y).outcome
if_sure true x y h k = h
if_sure false x y h k = k

pub done_sure : (s : Stage) (m : Machine) → IsSure m.outcome → IsSure (fed_done s m).outcome
done_sure stages.Preparing m h = h
done_sure stages.Beginning m h = h
done_sure stages.Working m h = h
done_sure stages.Publishing m h = h
done_sure stages.Asking m h = h
done_sure stages.Finishing m h = if_sure (nat_lt m.done m.plan.commit) (advanced stages.Finishing m) (sweeping AllDone (advanced stages.Finishing m)) h tt
done_sure stages.Undoing m h = if_sure (nat_lt (m.place + 1) (length m.plan.undo.items)) (record m { place = m.place + 1 }) (sweeping m.outcome m) h h
done_sure stages.Sweeping m h = h
done_sure stages.Removing m h = h

pub failed_sure : (s : Stage) (m : Machine) → IsSure m.outcome → IsSure (fed_failed s m).outcome
failed_sure stages.Preparing m h = tt
failed_sure stages.Beginning m h = tt
failed_sure stages.Working m h = tt
failed_sure stages.Publishing m h = if_sure (nat_lt 0 (bytes_in (slice_get m.plan.ops.items m.done))) (record m { stage = stages.Asking; outcome = Fault }) (undoing Fault m) tt tt
failed_sure stages.Asking m h = tt
failed_sure stages.Finishing m h = tt
failed_sure stages.Undoing m h = tt
failed_sure stages.Sweeping m h = h
failed_sure stages.Removing m h = h

stray_sure : (size : Option ℕ) (m : Machine) → IsSure m.outcome → IsSure (stray_sized size m).outcome
stray_sure None m h = h
stray_sure (Some n) m h = h

size_sure : (s : Stage) (size : Option ℕ) (m : Machine) → IsSure m.outcome → IsSure (fed_size s size m).outcome
size_sure stages.Asking size m h = if_sure (nat_lt (unwrap_or size 0 - m.plan.before) (bytes_in (slice_get m.plan.ops.items m.done))) (undoing m.outcome m) (advanced stages.Finishing m) h h
size_sure stages.Preparing size m h = stray_sure size m h
size_sure stages.Beginning size m h = stray_sure size m h
size_sure stages.Working size m h = stray_sure size m h
size_sure stages.Publishing size m h = stray_sure size m h
size_sure stages.Finishing size m h = stray_sure size m h
size_sure stages.Undoing size m h = stray_sure size m h
size_sure stages.Sweeping size m h = stray_sure size m h
size_sure stages.Removing size m h = stray_sure size m h

done_onward : Going → (m : Machine) → Onward m (fed m Done)
done_onward g m = record { published = g.published_done m; sure = done_sure m.stage m }

failed_onward : Going → (m : Machine) → Onward m (fed m Failed)
failed_onward g m = record { published = g.published_failed m; sure = failed_sure m.stage m }

sizes_fit : (m : Machine) (path : List ℕ) (size : Option ℕ) → asked m ≡ Sizing path → Fits (asked m) (Size size)
sizes_fit m path size e = subst (λ q. Fits q (Size size)) (sym e) tt

pub sizes_onward : Going → (t : Tree) (from m : Machine) → Sizes t from m → Onward from m
sizes_onward g t from m no_more = onward_same from
sizes_onward g t from m (one_more n path size s e is) =
    onward_then from n (fed n (Size size)) (sizes_onward g t from n s) (record { published = g.published_sized n size (sizes_fit n path size e); sure = size_sure n.stage size n })

does_onward : Going → (deed : Deed) (op : Op) (w : Working) (done : List Op) (after : Working) → Does deed op w done after → Onward w.machine after.machine
does_onward g All op w done after d = subst (λ (v : Working). Onward w.machine v.machine) (sym d.1) (done_onward g w.machine)
does_onward g (Part count) op w done after (inl d) = subst (λ (v : Working). Onward w.machine v.machine) (sym d.2) (onward_same w.machine)
does_onward g (Part count) op w done after (inr d) = subst (λ (v : Working). Onward w.machine v.machine) (sym d.2) (done_onward g w.machine)
does_onward g (Fail count) op w done after d = subst (λ (v : Working). Onward w.machine v.machine) (sym d.1) (failed_onward g w.machine)

asked_onward : Going → (deed : Deed) (q : Question) (w : Working) (done : List Op) (after : Working) → OfOperation q (λ op. Does deed op w done after) ((done ≡ []) × (after ≡ w)) → Onward w.machine after.machine
asked_onward g deed (Doing op) w done after d = does_onward g deed op w done after d
asked_onward g deed (Sizing path) w done after d = subst (λ (v : Working). Onward w.machine v.machine) (sym d.1) (onward_same w.machine)
asked_onward g deed Ending w done after d = subst (λ (v : Working). Onward w.machine v.machine) (sym d.1) (onward_same w.machine)

pub acts_onward : Going → (deed : Deed) (t : Tree) (w : Working) (done : List Op) (after : Working) → Acts deed t w done after → Onward w.machine after.machine
acts_onward g deed t w done after a =
    onward_then w.machine a.machine after.machine (sizes_onward g t w.machine a.machine a.next.sizes) (asked_onward g deed (asked a.machine) (at_machine w a.machine) done after a.does)

runs_on : Going → (goal : Goal) (t : Tree) (from w : Working) (log : List Op) → Runs goal t from log w → Onward from.machine w.machine
runs_on g goal t from w log not_yet = onward_same from.machine
runs_on g goal t from _ _ (once_more log done v m op r n e far d) =
    onward_then from.machine v.machine (fed m Done) (runs_on g goal t from v log r) (onward_then v.machine m (fed m Done) (sizes_onward g (after_all log t) v.machine m n.sizes) (done_onward g m))

pub runs_onward : Going → (goal : Goal) (t : Tree) (from : Working) (done : List Op) (after : Working) → RunsTo goal t from done after → Onward from.machine after.machine
runs_onward g goal t from done after r =
    subst (λ (v : Working). Onward from.machine v.machine) (sym r.is) (onward_then from.machine r.last.machine r.machine (runs_on g goal t from r.last done r.runs) (sizes_onward g (after_all done t) r.last.machine r.machine r.next.sizes))

-- ---- questions for sizes

-- no question for a size stands before an operation
pub no_sizes : (t : Tree) (from m : Machine) (op : Op) → asked from ≡ Doing op → Sizes t from m → m ≡ from
no_sizes t from m op e no_more = refl
no_sizes t from m op e (one_more n path size h f s) = let k = no_sizes t from n op e h in cc

-- nor at the end
pub no_sizes_end : (t : Tree) (from m : Machine) → asked from ≡ Ending → Sizes t from m → m ≡ from
no_sizes_end t from m e no_more = refl
no_sizes_end t from m e (one_more n path size h f s) = let k = no_sizes_end t from n e h in cc

-- they change nothing that was done
sizes_keep : Going → (t : Tree) (from m : Machine) → Sizes t from m → KeepsSoFar t from m
sizes_keep g t from m no_more = λ start log is h. h
sizes_keep g t from m (one_more n path size s e is) = λ start log now h.
    let before = sizes_keep g t from n s start log now h in
    let there : IsSizeOf (after_all log start path) size = subst (λ (x : Tree). IsSizeOf (x path) size) (sym now) is in
    let replies : Replies (after_all log start) (asked n) (Size size) [] = subst (λ q. Replies (after_all log start) q (Size size) []) (sym e) (refl, there) in
    subst (λ l. SoFar start (fed n (Size size)) l) (append-nil log) (g.sized n size start log [] before replies)

if_plan : (b : Bool) (x y m : Machine) → x.plan ≡ m.plan → y.plan ≡ m.plan → (if b then x else y).plan ≡ m.plan
if_plan true x y m e f = e
if_plan false x y m e f = f

stray_plan : (size : Option ℕ) (m : Machine) → (stray_sized size m).plan ≡ m.plan
stray_plan None m = refl
stray_plan (Some n) m = refl

size_plan : (s : Stage) (size : Option ℕ) (m : Machine) → (fed_size s size m).plan ≡ m.plan
size_plan stages.Asking size m = if_plan (nat_lt (unwrap_or size 0 - m.plan.before) (bytes_in (slice_get m.plan.ops.items m.done))) (undoing m.outcome m) (advanced stages.Finishing m) m refl refl
size_plan stages.Preparing size m = stray_plan size m
size_plan stages.Beginning size m = stray_plan size m
size_plan stages.Working size m = stray_plan size m
size_plan stages.Publishing size m = stray_plan size m
size_plan stages.Finishing size m = stray_plan size m
size_plan stages.Undoing size m = stray_plan size m
size_plan stages.Sweeping size m = stray_plan size m
size_plan stages.Removing size m = stray_plan size m

sizes_plan : (t : Tree) (from m : Machine) → Sizes t from m → m.plan ≡ from.plan
sizes_plan t from m no_more = refl
sizes_plan t from m (one_more n path size s e is) = size_plan n.stage size n ∙ sizes_plan t from n s

pub unbegun : (q : Question) (part : ℕ) → part ≡ 0 → IsBegun q part []
unbegun (Doing op) part e = subst (λ n. HasDone op n []) (sym e) refl
unbegun (Sizing path) part e = (e, refl)
unbegun Ending part e = (e, refl)

sized_by : Going → (t : Tree) (p : Planned) (w : Working) (m : Machine) (own : List Op) (q : Question) → asked w.machine ≡ q → HasWorked t p w own → Sizes (after_all own t) w.machine m → HasWorked t p (at_machine w m) own
sized_by g t p w m own (Doing op) e h s = subst (λ n. HasWorked t p (at_machine w n) own) (sym (no_sizes (after_all own t) w.machine m op e s)) h
sized_by g t p w m own (Sizing path) e h s =
    let b = subst (λ q. IsBegun q w.part h.begun) e h.is_begun in
    let all : own ≡ h.log = h.whole ∙ ap (λ l. h.log ++ l) b.1 ∙ append-nil h.log in
    record {
      plan = sizes_plan (after_all own t) w.machine m s ∙ h.plan;
      rev = h.rev;
      node = h.node;
      log = h.log;
      begun = [];
      so_far = sizes_keep g (after_all own t) w.machine m s t h.log (ap (λ l. after_all l t) (sym all)) h.so_far;
      is_begun = unbegun (asked m) w.part b.0;
      whole = all ∙ sym (append-nil h.log);
    }
sized_by g t p w m own Ending e h s = subst (λ n. HasWorked t p (at_machine w n) own) (sym (no_sizes_end (after_all own t) w.machine m e s)) h

-- and what a writer has done it has done when they are answered
pub comes_by_sizes : Going → (command : Command) (t : Tree) (w : Working) (m : Machine) (done : List Op) → HasCome command t w done → IsAtNext (after_all done t) w.machine m → HasCome command t (at_machine w m) done
comes_by_sizes g command t w m done h n =
    let u = after_all h.locking t in
    let here : after_all done t ≡ after_all h.working u = ap (λ l. after_all l t) h.whole ∙ after_append h.locking h.working t in
    record {
      planned = h.planned;
      locking = h.locking;
      working = h.working;
      locked = h.locked;
      plans = h.plans;
      worked = sized_by g u h.planned w m h.working (asked w.machine) refl h.worked (subst (λ (x : Tree). Sizes x w.machine m) here n.sizes);
      whole = h.whole;
    }
