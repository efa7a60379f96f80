-- A writer at any moment of its work.
use Rattle.std.proofs.Common.{◌≡◌, ℕ, zero, suc, ◌+◌, ◌-◌, ◌≤◌, List, [], ◌++◌, length, refl, sym, ◌∙◌, ap, subst, append-nil, append_assoc, Bool, true, false, inl, inr, if◌then◌else◌}
use Rattle.std.specs.Prelude.{Ok, Option, Some, None, nat_lt, slice_get, unwrap_or}
use Rattle.hgs_answers.specs.declared.answer.Answer.{Answer}
use Rattle.hgs_files.specs.declared.op.Op.{Op}
use Rattle.hgs_files.specs.declared.op.Op.TheVariants.{Append, Cut, Rename, Remove, Create, Sync, Settle}
use Rattle.hgs_files.specs.Reads.{IsSizeOf}
use Rattle.hgs_files.specs.Tree.{Tree, after_all}
use Rattle.hgs_machine.specs.Asked.{Doing, Ending, Question, Sizing, asked, bytes_in}
use Rattle.hgs_machine.specs.Course.{CarriedOut}
use Rattle.hgs_machine.specs.Fed.{advanced, fed, fed_done, fed_failed, fed_size, new_machine, stray_sized, sweeping, undoing}
use Rattle.hgs_machine.specs.Locks.{AreLocked}
use Rattle.hgs_machine.specs.Planned.{IsPlanned}
use Rattle.hgs_transaction.specs.declared.assemble.Plan.{Plan}
use Rattle.hgs_writer.specs.Planning.{Plans}
use Rattle.hgs_machine.specs.SoFar.{IsInPart, Leaves, Replies, SoFar, Steps, stopped_as}
use Rattle.hgs_machine.specs.declared.ended.Short.TheVariants.{Done as AllDone, Fault}
use Rattle.hgs_machine.specs.declared.machine.Machine.{Machine}
use Rattle.hgs_machine.specs.declared.machine.Reply.{Reply}
use Rattle.hgs_machine.specs.declared.machine.Reply.TheVariants.{Done, Failed, Size}
use Rattle.hgs_machine.specs.declared.machine.Stage.{Stage}
use Rattle.hgs_machine.specs.declared.machine.Stage.TheVariants.{Preparing, Beginning, Asking, Finishing, Undoing, Sweeping, Removing}
use Rattle.hgs_machine.specs.declared.machine.Stage.TheVariants as stages
use Rattle.hgs_model.specs.declared.command.Command.{Command}
use Rattle.hgs_writer.specs.Outcomes.{outcome_of_ended}
use Rattle.hgs_writer.specs.Written.{IsWritten, is_carried_out}
use Rattle.hgs_writer.specs.declared.plan.Planned.{Planned}
use Rattle.hgs_world.specs.Below.{Going}
use Rattle.hgs_world.specs.Moments.{HasCome, HasWorked}
use Rattle.hgs_world.specs.Parts.{DoesPart, DoesRest, HasDone}
use Rattle.hgs_world.specs.Working.{Acts, Does, HasBytes, IsAtNext, IsBegun, KeepsSoFar, OfOperation, Runs, RunsTo, Sizes, StopsWithin, at_machine, is_part, no_more, not_yet, once_more, one_more, wholly, with_part}
use Rattle.hgs_world.specs.World.{new_writer, who}
use Rattle.hgs_world.specs.declared.working.Deed.{Deed}
use Rattle.hgs_world.specs.declared.working.Deed.TheVariants.{All, Part, Fail}
use Rattle.hgs_world.specs.declared.working.Goal.{Goal}
use Rattle.hgs_world.specs.declared.working.Working.{Working}
use Rattle.hgs_world.proofs.PartLemmas.{part_further, part_leaves, rest_leaves}
use Rattle.hgs_world.proofs.WorkLemmas.{after_append, less_than, no_sizes, unbegun}

none_more : (op : Op) (part : ℕ) → DoesPart op part 0 []
none_more (Append path bytes) part = refl
none_more (Create path bytes) zero = refl
none_more (Create path bytes) (suc n) = refl
none_more (Cut path len) part = refl
none_more (Rename from to) part = refl
none_more (Remove path) part = refl
none_more (Sync path) part = refl
none_more Settle part = refl

in_part : (q : Question) (part : ℕ) (begun : List Op) → IsBegun q part begun → IsInPart q begun
in_part (Doing op) part begun h = subst (λ l. IsInPart (Doing op) l) (append-nil begun) (part_leaves op part 0 begun [] h (none_more op part))
in_part (Sizing path) part begun h = h.1
in_part Ending part begun h = h.1

-- what it would answer that does nothing more
abbrev pub answer_at : Working → Answer
answer_at w = record { outcome = outcome_of_ended (stopped_as w.machine) w.rev w.node; swept = false }

pub written_so_far : ((t : Tree) (m : Machine) (log more : List Op) → SoFar t m log → IsInPart (asked m) more → CarriedOut t m.plan (stopped_as m) false (log ++ more))
    → (command : Command) (t : Tree) (w : Working) (done : List Op) → HasCome command t w done → IsWritten who command t (answer_at w) done
written_so_far law command t w done h =
    let u = after_all h.locking t in
    let k = h.worked in
    let so : CarriedOut u w.machine.plan (stopped_as w.machine) false h.working = subst (CarriedOut u w.machine.plan (stopped_as w.machine) false) (sym k.whole) (law u w.machine k.log k.begun k.so_far (in_part (asked w.machine) w.part k.begun k.is_begun)) in
    let carried = subst (λ p. CarriedOut u p (stopped_as w.machine) false h.working) k.plan so in
    let told : outcome_of_ended (stopped_as w.machine) w.rev w.node ≡ outcome_of_ended (stopped_as w.machine) h.planned.rev h.planned.node = ap (λ n. outcome_of_ended (stopped_as w.machine) n w.node) k.rev ∙ ap (λ n. outcome_of_ended (stopped_as w.machine) h.planned.rev n) k.node in
    is_carried_out h.planned h.locking h.working h.locked h.plans (record { ended = stopped_as w.machine; carried = carried; outcome = told }) h.whole

-- ---- from one event to the next

-- questions for sizes change nothing that was done
sizes_keep : ((m : Machine) (size : Option ℕ) → Steps m (Size size) (fed m (Size size))) → (t : Tree) (from m : Machine) → Sizes t from m → KeepsSoFar t from m
sizes_keep law t from m no_more = λ start log is h. h
sizes_keep law t from m (one_more n path size s e is) = λ start log now h.
    let before = sizes_keep law t from n s start log now h in
    let there : IsSizeOf (after_all log start path) size = subst (λ (x : Tree). IsSizeOf (x path) size) (sym now) is in
    let replies : Replies (after_all log start) (asked n) (Size size) [] = subst (λ q. Replies (after_all log start) q (Size size) []) (sym e) (refl, there) in
    subst (λ l. SoFar start (fed n (Size size)) l) (append-nil log) (law n size start log [] before replies)

-- ---- the plan stays

if_plan : (b : Bool) (x y m : Machine) → x.plan ≡ m.plan → y.plan ≡ m.plan → (if b then x else y).plan ≡ m.plan
if_plan true x y m e f = e
if_plan false x y m e f = f

done_plan : (s : Stage) (m : Machine) → (fed_done s m).plan ≡ m.plan
done_plan Preparing m = refl
done_plan Beginning m = refl
done_plan stages.Working m = refl
done_plan stages.Publishing m = refl
done_plan Asking m = refl
done_plan Finishing m = if_plan (nat_lt m.done m.plan.commit) (advanced Finishing m) (sweeping AllDone (advanced Finishing m)) m refl refl
done_plan Undoing m = if_plan (nat_lt (m.place + 1) (length m.plan.undo.items)) (record m { place = m.place + 1 }) (sweeping m.outcome m) m refl refl
done_plan Sweeping m = refl
done_plan Removing m = refl

failed_plan : (s : Stage) (m : Machine) → (fed_failed s m).plan ≡ m.plan
failed_plan Preparing m = refl
failed_plan Beginning m = refl
failed_plan stages.Working m = refl
failed_plan stages.Publishing m = if_plan (nat_lt 0 (bytes_in (slice_get m.plan.ops.items m.done))) (record m { stage = Asking; outcome = Fault }) (undoing Fault m) m refl refl
failed_plan Asking m = refl
failed_plan Finishing m = refl
failed_plan Undoing m = refl
failed_plan Sweeping m = refl
failed_plan Removing m = refl

stray_plan : (size : Option ℕ) (m : Machine) → (stray_sized size m).plan ≡ m.plan
stray_plan None m = refl
stray_plan (Some n) m = refl

size_plan : (s : Stage) (size : Option ℕ) (m : Machine) → (fed_size s size m).plan ≡ m.plan
size_plan Asking size m = if_plan (nat_lt (unwrap_or size 0 - m.plan.before) (bytes_in (slice_get m.plan.ops.items m.done))) (undoing m.outcome m) (advanced Finishing m) m refl refl
size_plan Preparing size m = stray_plan size m
size_plan Beginning size m = stray_plan size m
size_plan stages.Working size m = stray_plan size m
size_plan stages.Publishing size m = stray_plan size m
size_plan Finishing size m = stray_plan size m
size_plan Undoing size m = stray_plan size m
size_plan Sweeping size m = stray_plan size m
size_plan Removing size m = stray_plan size m

sizes_plan : (t : Tree) (from m : Machine) → Sizes t from m → m.plan ≡ from.plan
sizes_plan t from m no_more = refl
sizes_plan t from m (one_more n path size s e is) = size_plan n.stage size n ∙ sizes_plan t from n s

come_by : (t : Tree) (p : Planned) (w : Working) (m : Machine) (own : List Op) (q : Question) → asked w.machine ≡ q → HasWorked t p w own → Sizes (after_all own t) w.machine m → KeepsSoFar (after_all own t) w.machine m → HasWorked t p (at_machine w m) own
come_by t p w m own (Doing op) e h s k = subst (λ n. HasWorked t p (at_machine w n) own) (sym (no_sizes (after_all own t) w.machine m op e s)) h
come_by t p w m own (Sizing path) e h s k =
    let b = subst (λ q. IsBegun q w.part h.begun) e h.is_begun in
    let all : own ≡ h.log = h.whole ∙ ap (λ l. h.log ++ l) b.1 ∙ append-nil h.log in
    record { plan = sizes_plan (after_all own t) w.machine m s ∙ h.plan; rev = h.rev; node = h.node; log = h.log; begun = []; so_far = k t h.log (ap (λ l. after_all l t) (sym all)) h.so_far; is_begun = unbegun (asked m) w.part b.0; whole = all ∙ sym (append-nil h.log) }
come_by t p w m own Ending e h s k =
    let b = subst (λ q. IsBegun q w.part h.begun) e h.is_begun in
    let all : own ≡ h.log = h.whole ∙ ap (λ l. h.log ++ l) b.1 ∙ append-nil h.log in
    record { plan = sizes_plan (after_all own t) w.machine m s ∙ h.plan; rev = h.rev; node = h.node; log = h.log; begun = []; so_far = k t h.log (ap (λ l. after_all l t) (sym all)) h.so_far; is_begun = unbegun (asked m) w.part b.0; whole = all ∙ sym (append-nil h.log) }

come : Going → (t : Tree) (p : Planned) (w : Working) (m : Machine) (own : List Op) → HasWorked t p w own → IsAtNext (after_all own t) w.machine m → HasWorked t p (at_machine w m) own
come g t p w m own h n = come_by t p w m own (asked w.machine) refl h n.sizes (sizes_keep g.sized (after_all own t) w.machine m n.sizes)

-- the machine was told what became of its operation
replied : (t : Tree) (p : Planned) (w : Working) (op : Op) (reply : Reply) (own more : List Op) → asked w.machine ≡ Doing op → Steps w.machine reply (fed w.machine reply) → (fed w.machine reply).plan ≡ w.machine.plan → ((begun : List Op) → HasDone op w.part begun → Leaves op reply (begun ++ more)) → HasWorked t p w own
    → HasWorked t p (record w { machine = fed w.machine reply; part = 0 }) (own ++ more)
replied t p w op reply own more e steps same leaves h =
    let has = subst (λ q. IsBegun q w.part h.begun) e h.is_begun in
    let replies : Replies (after_all h.log t) (asked w.machine) reply (h.begun ++ more) = subst (λ q. Replies (after_all h.log t) q reply (h.begun ++ more)) (sym e) (leaves h.begun has) in
    record {
      plan = same ∙ h.plan;
      rev = h.rev;
      node = h.node;
      log = h.log ++ (h.begun ++ more);
      begun = [];
      so_far = steps t h.log (h.begun ++ more) h.so_far replies;
      is_begun = unbegun (asked (fed w.machine reply)) 0 refl;
      whole = ap (λ l. l ++ more) h.whole ∙ append_assoc h.log h.begun more ∙ sym (append-nil (h.log ++ (h.begun ++ more)));
    }

rest_done : Going → (t : Tree) (p : Planned) (w : Working) (op : Op) (own more : List Op) → asked w.machine ≡ Doing op → DoesRest op w.part more → HasWorked t p w own → HasWorked t p (wholly w) (own ++ more)
rest_done g t p w op own more e d h = replied t p w op Done own more e (g.done w.machine) (done_plan w.machine.stage w.machine) (λ begun has. rest_leaves op w.part begun more has d) h

part_done : (t : Tree) (p : Planned) (w : Working) (op : Op) (count : ℕ) (own more : List Op) → asked w.machine ≡ Doing op → 1 ≤ count → is_part op w.part count ≡ true → DoesPart op w.part count more → HasWorked t p w own → HasWorked t p (with_part w count) (own ++ more)
part_done t p w op count own more e some less d h =
    let has = subst (λ q. IsBegun q w.part h.begun) e h.is_begun in
    let fewer = less_than (Doing op) op w.part count refl less in
    record {
      plan = h.plan;
      rev = h.rev;
      node = h.node;
      log = h.log;
      begun = h.begun ++ more;
      so_far = h.so_far;
      is_begun = subst (λ q. IsBegun q (w.part + count) (h.begun ++ more)) (sym e) (part_further op w.part count h.begun more some fewer has d);
      whole = ap (λ l. l ++ more) h.whole ∙ append_assoc h.log h.begun more;
    }

does : Going → (t : Tree) (p : Planned) (w : Working) (deed : Deed) (op : Op) (own more : List Op) (after : Working) → asked w.machine ≡ Doing op → HasBytes deed → Does deed op w more after → HasWorked t p w own → HasWorked t p after (own ++ more)
does g t p w All op own more after e some d h = subst (λ x. HasWorked t p x (own ++ more)) (sym d.1) (rest_done g t p w op own more e d.0 h)
does g t p w (Part count) op own more after e some (inl d) h = subst (λ x. HasWorked t p x (own ++ more)) (sym d.2) (part_done t p w op count own more e some d.0 d.1 h)
does g t p w (Part count) op own more after e some (inr d) h = subst (λ x. HasWorked t p x (own ++ more)) (sym d.2) (rest_done g t p w op own more e d.1 h)
does g t p w (Fail count) op own more after e some d h =
    subst (λ x. HasWorked t p x (own ++ more)) (sym d.1) (replied t p w op Failed own more e (g.failed w.machine) (failed_plan w.machine.stage w.machine) (λ begun has. part_leaves op w.part count begun more has d.0) h)

does_by : Going → (t : Tree) (p : Planned) (w : Working) (deed : Deed) (q : Question) (own more : List Op) (after : Working) → asked w.machine ≡ q → HasBytes deed → OfOperation q (λ op. Does deed op w more after) ((more ≡ []) × (after ≡ w)) → HasWorked t p w own → HasWorked t p after (own ++ more)
does_by g t p w deed (Doing op) own more after e some d h = does g t p w deed op own more after e some d h
does_by g t p w deed (Sizing path) own more after e some d h = subst (λ x. HasWorked t p x (own ++ more)) (sym d.1) (subst (λ l. HasWorked t p w l) (sym (ap (λ l. own ++ l) d.0 ∙ append-nil own)) h)
does_by g t p w deed Ending own more after e some d h = subst (λ x. HasWorked t p x (own ++ more)) (sym d.1) (subst (λ l. HasWorked t p w l) (sym (ap (λ l. own ++ l) d.0 ∙ append-nil own)) h)

pub works_on : Going → (t : Tree) (p : Planned) (w : Working) (deed : Deed) (own more : List Op) (after : Working) → HasBytes deed → Acts deed (after_all own t) w more after → HasWorked t p w own → HasWorked t p after (own ++ more)
works_on g t p w deed own more after some a h = does_by g t p (at_machine w a.machine) deed (asked a.machine) own more after refl some a.does (come g t p w a.machine own h a.next)

runs_on : Going → (t : Tree) (p : Planned) (goal : Goal) (w : Working) (own more : List Op) (after : Working) → Runs goal (after_all own t) w more after → HasWorked t p w own → HasWorked t p after (own ++ more)
runs_on g t p goal w own more after not_yet h = subst (λ l. HasWorked t p w l) (sym (append-nil own)) h
runs_on g t p goal w own more after (once_more log done v m op r n e far d) h =
    let before = runs_on g t p goal w own log v r h in
    let there = subst (λ (x : Tree). IsAtNext x v.machine m) (sym (after_append own log t)) n in
    subst (λ l. HasWorked t p (wholly (at_machine v m)) l) (append_assoc own log done) (rest_done g t p (at_machine v m) op (own ++ log) done e d (come g t p v m (own ++ log) before there))

pub works_to : Going → (t : Tree) (p : Planned) (goal : Goal) (w : Working) (own more : List Op) (after : Working) → RunsTo goal (after_all own t) w more after → HasWorked t p w own → HasWorked t p after (own ++ more)
works_to g t p goal w own more after r h =
    let before = runs_on g t p goal w own more r.last r.runs h in
    let there = subst (λ (x : Tree). IsAtNext x r.last.machine r.machine) (sym (after_append own more t)) r.next in
    subst (λ x. HasWorked t p x (own ++ more)) (sym r.is) (come g t p r.last r.machine (own ++ more) before there)

-- ---- with its command

pub comes_by_act : Going → (command : Command) (t : Tree) (w : Working) (done : List Op) (deed : Deed) (more : List Op) (after : Working) → HasCome command t w done → HasBytes deed → Acts deed (after_all done t) w more after → HasCome command t after (done ++ more)
comes_by_act g command t w done deed more after h some a =
    let u = after_all h.locking t in
    let here : after_all done t ≡ after_all h.working u = ap (λ l. after_all l t) h.whole ∙ after_append h.locking h.working t in
    record {
      planned = h.planned;
      locking = h.locking;
      working = h.working ++ more;
      locked = h.locked;
      plans = h.plans;
      worked = works_on g u h.planned w deed h.working more after some (subst (λ (x : Tree). Acts deed x w more after) here a) h.worked;
      whole = ap (λ l. l ++ more) h.whole ∙ append_assoc h.locking h.working more;
    }

pub comes_by_run : Going → (command : Command) (t : Tree) (w : Working) (done : List Op) (goal : Goal) (more : List Op) (after : Working) → HasCome command t w done → RunsTo goal (after_all done t) w more after → HasCome command t after (done ++ more)
comes_by_run g command t w done goal more after h a =
    let u = after_all h.locking t in
    let here : after_all done t ≡ after_all h.working u = ap (λ l. after_all l t) h.whole ∙ after_append h.locking h.working t in
    record {
      planned = h.planned;
      locking = h.locking;
      working = h.working ++ more;
      locked = h.locked;
      plans = h.plans;
      worked = works_to g u h.planned goal w h.working more after (subst (λ (x : Tree). RunsTo goal x w more after) here a) h.worked;
      whole = ap (λ l. l ++ more) h.whole ∙ append_assoc h.locking h.working more;
    }

-- and with its questions for sizes answered
pub comes_by_sizes : Going → (command : Command) (t : Tree) (w : Working) (m : Machine) (done : List Op) → HasCome command t w done → IsAtNext (after_all done t) w.machine m → HasCome command t (at_machine w m) done
comes_by_sizes g command t w m done h n =
    let u = after_all h.locking t in
    let here : after_all done t ≡ after_all h.working u = ap (λ l. after_all l t) h.whole ∙ after_append h.locking h.working t in
    record {
      planned = h.planned;
      locking = h.locking;
      working = h.working;
      locked = h.locked;
      plans = h.plans;
      worked = come g u h.planned w m h.working h.worked (subst (λ (x : Tree). IsAtNext x w.machine m) here n);
      whole = h.whole;
    }

-- ---- the beginning, and a stop

pub comes_first : ((t : Tree) (plan : Plan) → IsPlanned t plan → SoFar t (new_machine plan) []) → (command : Command) (t : Tree) (planned : Planned) (done : List Op) → AreLocked who t done → Plans command (after_all done t) (Ok planned) → IsPlanned (after_all done t) planned.plan
    → HasCome command t (new_writer planned) done
comes_first begins command t planned done locked plans can =
    record {
      planned = planned;
      locking = done;
      working = [];
      locked = locked;
      plans = plans;
      worked = record { plan = refl; rev = refl; node = refl; log = []; begun = []; so_far = begins (after_all done t) planned.plan can; is_begun = unbegun (asked (new_machine planned.plan)) 0 refl; whole = refl };
      whole = sym (append-nil done);
    }

stopped_part : (q : Question) (part count : ℕ) (begun more : List Op) → IsBegun q part begun → OfOperation q (λ op. DoesPart op part count more) (more ≡ []) → IsInPart q (begun ++ more)
stopped_part (Doing op) part count begun more h d = part_leaves op part count begun more h d
stopped_part (Sizing path) part count begun more h d = ap (λ l. l ++ more) h.1 ∙ d
stopped_part Ending part count begun more h d = ap (λ l. l ++ more) h.1 ∙ d

-- a writer that stops within its next operation is written as one that ends there
pub written_at_stop : Going → ((t : Tree) (m : Machine) (log more : List Op) → SoFar t m log → IsInPart (asked m) more → CarriedOut t m.plan (stopped_as m) false (log ++ more))
    → (command : Command) (t : Tree) (w : Working) (done : List Op) (count : ℕ) (more : List Op) → HasCome command t w done → (after : Working) → StopsWithin count (after_all done t) w more after → IsWritten who command t (answer_at (at_machine w after.machine)) (done ++ more)
written_at_stop g law command t w done count more h after s =
    let u = after_all h.locking t in
    let m = after.machine in
    let here : after_all done t ≡ after_all h.working u = ap (λ l. after_all l t) h.whole ∙ after_append h.locking h.working t in
    let k = come g u h.planned w m h.working h.worked (subst (λ (x : Tree). IsAtNext x w.machine m) here s.next) in
    let part = stopped_part (asked m) w.part count k.begun more k.is_begun s.does in
    let so : CarriedOut u m.plan (stopped_as m) false (h.working ++ more) =
    subst (CarriedOut u m.plan (stopped_as m) false) (sym (ap (λ l. l ++ more) k.whole ∙ append_assoc k.log k.begun more)) (law u m k.log (k.begun ++ more) k.so_far part) in
    let carried = subst (λ p. CarriedOut u p (stopped_as m) false (h.working ++ more)) k.plan so in
    let told : outcome_of_ended (stopped_as m) w.rev w.node ≡ outcome_of_ended (stopped_as m) h.planned.rev h.planned.node = ap (λ n. outcome_of_ended (stopped_as m) n w.node) k.rev ∙ ap (λ n. outcome_of_ended (stopped_as m) h.planned.rev n) k.node in
    is_carried_out h.planned h.locking (h.working ++ more) h.locked h.plans (record { ended = stopped_as m; carried = carried; outcome = told }) (ap (λ l. l ++ more) h.whole ∙ append_assoc h.locking h.working more)
