-- What a writer has published that does nothing more.
use Rattle.std.proofs.Common.{◌≡◌, ℕ, zero, suc, ◌<◌, ◌≤◌, List, [], ◌∷◌, ◌++◌, length, take, drop, refl, sym, ◌∙◌, ap, subst, append-nil, append_assoc, Bool, true, false, inl, if◌then◌else◌, arith, add-one}
use Rattle.std.proofs.lemmas.List.{length-drop}
use Rattle.std.specs.Prelude.{Option, Some, None, nat_lt, slice_get}
use Rattle.hgs_answers.specs.declared.answer.Answer.{Answer}
use Rattle.hgs_files.specs.Log.{IsDone, append_of_rest}
use Rattle.hgs_files.specs.Theorems.LogLemmas.{done-append, done-behind}
use Rattle.hgs_files.specs.declared.op.Op.{Op}
use Rattle.hgs_files.specs.declared.op.Op.TheVariants as ops
use Rattle.hgs_files.specs.Tree.{Tree, after_all}
use Rattle.hgs_index.specs.declared.node.Node.{Node}
use Rattle.hgs_journal.specs.Names.{journal_path}
use Rattle.hgs_legal.specs.LegalLog.{State, Turn, current}
use Rattle.hgs_legal.specs.ListsPaths.{ListsPaths}
use Rattle.hgs_machine.specs.Asked.{Doing, Ending, Question, Sizing, asked, bytes_in, question_of}
use Rattle.hgs_machine.specs.Course.{CarriedOut, HasBegun, between, through_publishing, while_undone}
use Rattle.hgs_machine.specs.Fed.{is_published, is_published_end}
use Rattle.hgs_machine.specs.Planned.{IsPlanned, Publishes}
use Rattle.hgs_machine.specs.SoFar.{IsInPart, Leaves, SoFar, WorksTo, stopped_as}
use Rattle.hgs_machine.specs.declared.ended.Published.TheVariants.{No, Yes, Unknown}
use Rattle.hgs_machine.specs.declared.ended.Short.{Short}
use Rattle.hgs_machine.specs.declared.ended.Short.TheVariants as shorts
use Rattle.hgs_machine.specs.declared.machine.Machine.{Machine}
use Rattle.hgs_machine.specs.declared.machine.Reply.TheVariants.{Failed}
use Rattle.hgs_machine.specs.declared.machine.Stage.{Stage}
use Rattle.hgs_machine.specs.declared.machine.Stage.TheVariants as stages
use Rattle.hgs_model.specs.Valid.{IsValid}
use Rattle.hgs_model.specs.declared.command.Command.{Command}
use Rattle.hgs_stands.specs.Stands.{Stands}
use Rattle.hgs_transaction.specs.declared.assemble.Plan.{Plan}
use Rattle.hgs_writer.specs.Outcomes.{outcome_of_ended}
use Rattle.hgs_writer.specs.Turns.{IsAtRest, LeadsAs, LeadsOn, Order}
use Rattle.hgs_writer.specs.Written.{IsWrittenFor, has_plan}
use Rattle.hgs_world.specs.Moments.{HasCome}
use Rattle.hgs_world.specs.Parts.{HasDone}
use Rattle.hgs_world.specs.Working.{IsBegun, IsSizing}
use Rattle.hgs_world.specs.World.{who}
use Rattle.hgs_world.specs.declared.working.Working.{Working}
use Rattle.hgs_played.specs.Below.{Calling, Going}
use Rattle.hgs_played.specs.Since.{IsSure, commands_of, one_if}

-- ---- what is done of the operation at hand

in_part : (op : Op) (part : ℕ) (begun : List Op) → HasDone op part begun → Leaves op Failed begun
in_part (ops.Append path bytes) zero begun h = subst (Leaves (ops.Append path bytes) Failed) (sym h) (ops.Append path bytes ∷ [], refl)
in_part (ops.Create path bytes) zero begun h = subst (Leaves (ops.Create path bytes) Failed) (sym h) (ops.Create path bytes ∷ [], refl)
in_part (ops.Cut path len) zero begun h = h
in_part (ops.Rename from to) zero begun h = h
in_part (ops.Remove path) zero begun h = h
in_part (ops.Sync path) zero begun h = h
in_part ops.Settle zero begun h = h
in_part (ops.Append path bytes) (suc n) begun h = (append_of_rest path (drop (suc n) bytes), h.1)
in_part (ops.Create path bytes) (suc n) begun h = (append_of_rest path (drop (suc n) bytes), h.1)
in_part (ops.Cut path len) (suc n) begun h = elim h [ ]
in_part (ops.Rename from to) (suc n) begun h = elim h [ ]
in_part (ops.Remove path) (suc n) begun h = elim h [ ]
in_part (ops.Sync path) (suc n) begun h = elim h [ ]
in_part ops.Settle (suc n) begun h = elim h [ ]

asked_in_part : (q : Question) (part : ℕ) (begun : List Op) → IsBegun q part begun → IsInPart q begun
asked_in_part (Doing op) part begun h = in_part op part begun h
asked_in_part (Sizing path) part begun h = h.1
asked_in_part Ending part begun h = h.1

-- ---- the publishing append stands in part

some_left : (path bytes : List ℕ) → 0 < length bytes → (op : Op) × (append_of_rest path bytes ≡ op ∷ [])
some_left path [] h = absurd (omega (arith, h))
some_left path (b ∷ bytes) h = (ops.Append path (b ∷ bytes), refl)

-- of an append that is begun something is left
append_left : (path bytes : List ℕ) (part : ℕ) (begun : List Op) → HasDone (ops.Append path bytes) part begun → (op : Op) × IsDone (ops.Append path bytes ∷ []) begun (op ∷ [])
append_left path bytes zero begun h = (ops.Append path bytes, subst (λ l. IsDone (ops.Append path bytes ∷ []) l (ops.Append path bytes ∷ [])) (sym h) refl)
append_left path bytes (suc n) begun h =
    let e = length-drop (suc n) bytes in
    let some = some_left path (drop (suc n) bytes) (omega (arith, e, h.0)) in
    (some.0, subst (IsDone (ops.Append path bytes ∷ []) begun) some.1 h.1)

between_next : (xs : List Op) (i k : ℕ) (op : Op) → i ≤ k → slice_get xs k ≡ Some op → between i (suc k) xs ≡ between i k xs ++ op ∷ []
between_next [] i k op le e = absurd (let h : ⊥ = cc in h)
between_next (x ∷ xs) zero zero op le e = ap (λ (o : Op). o ∷ []) (let h : x ≡ op = cc in h)
between_next (x ∷ xs) (suc i) zero op le e = absurd (omega arith)
between_next (x ∷ xs) zero (suc k) op le e = ap (λ (l : List Op). x ∷ l) (between_next xs zero k op (omega arith) e)
between_next (x ∷ xs) (suc i) (suc k) op le e = between_next xs i k op (omega arith) e

-- with it, the operations through the publishing one are begun
begins_publishing : (p : Plan) (op o : Op) (log begun : List Op) → p.journal ≤ p.publish → slice_get p.ops.items p.publish ≡ Some op → WorksTo p p.publish log → IsDone (op ∷ []) begun (o ∷ []) → HasBegun p (through_publishing p) (log ++ begun) (o ∷ [])
begins_publishing p op o log begun le at works done =
    let all : through_publishing p ≡ between p.journal p.publish p.ops.items ++ op ∷ [] = ap (λ n. between p.journal n p.ops.items) (add-one p.publish) ∙ between_next p.ops.items p.journal p.publish op le at in
    record {
      prepared = works.prepared;
      all_prepared = works.all_prepared;
      first = works.first;
      more = works.more ++ begun;
      done = subst (λ l. IsDone l (works.first ∷ (works.more ++ begun)) (o ∷ [])) (sym all)
          (done-append (between p.journal p.publish p.ops.items ++ op ∷ []) (works.first ∷ works.more) (op ∷ []) begun (o ∷ []) (done-behind (between p.journal p.publish p.ops.items) (op ∷ []) (works.first ∷ works.more) [] works.done) done);
      whole = ap (λ l. l ++ begun) works.whole ∙ append_assoc works.prepared (works.first ∷ works.more) begun;
    }

-- the list of undoing, of which nothing is done, has an operation
undo_left : (undo front : List Op) (last : Op) → undo ≡ front ++ last ∷ [] → (o : Op) × (rest : List Op) × IsDone undo [] (o ∷ rest)
undo_left undo [] last e = (last, [], e)
undo_left undo (f ∷ front) last e = (f, front ++ last ∷ [], e)

-- so it broke off before it was published
breaks_off : (t : Tree) (p : Plan) (op o : Op) (log begun : List Op) → IsPlanned t p → slice_get p.ops.items p.publish ≡ Some op → WorksTo p p.publish log → IsDone (op ∷ []) begun (o ∷ []) → CarriedOut t p (shorts.Unfinished No) false (log ++ begun)
breaks_off t p op o log begun planned at works done =
    let undo = undo_left p.undo.items planned.undo.0 (ops.Remove journal_path) planned.undo.1 in
    let le = planned.journal in
    record {
      own = (log ++ begun) ++ [];
      removed = [];
      ends = while_undone (log ++ begun) [] o [] undo.0 undo.1 (begins_publishing p op o log begun (omega (arith, le)) at works done) undo.2;
      some = inl (inl refl);
      whole = sym (append-nil (log ++ begun)) ∙ sym (append-nil ((log ++ begun) ++ []));
      gone = λ no. absurd (let never : ⊥ = cc in never);
    }

-- ---- how a machine ends that does nothing more

abbrev pub IsNotAsking : Stage → Type 0
IsNotAsking stages.Asking = ⊥
IsNotAsking _ = Unit {0}

-- It ends so, and it is known whether that is published.
pub record EndsAs (t : Tree) (p : Plan) (published : Bool) (log : List Op) : Type 0 where
  pub ended : Short
  pub carried : CarriedOut t p ended false log
  pub sure : IsSure ended
  pub is : is_published_end ended ≡ published

pub asked_at_publish : (o : Option Op) (op : Op) → o ≡ Some op → question_of o (λ x. false) ≡ Doing op
asked_at_publish o op e = ap (λ x. question_of x (λ y. false)) e

published_by : Going → (t : Tree) (p : Plan) (done place : ℕ) (o : Short) (swept : Bool) (log begun : List Op) (part : ℕ) (op : Op) → slice_get p.ops.items done ≡ Some op → (u : Tree) (before : ℕ) → Publishes u before op
    → let m : Machine = record { plan = p; stage = stages.Publishing; done = done; place = place; outcome = o; swept = swept } in SoFar t m log → IsBegun (asked m) part begun → EndsAs t p false (log ++ begun)
published_by g t p done place o swept log begun part (ops.Append path bytes) at u before may s b =
    let has = append_left path bytes part begun (subst (λ q. IsBegun q part begun) (asked_at_publish (slice_get p.ops.items done) (ops.Append path bytes) at) b) in
    let there : slice_get p.ops.items p.publish ≡ Some (ops.Append path bytes) = ap (slice_get p.ops.items) (sym s.here.0) ∙ at in
    record { ended = shorts.Unfinished No; carried = breaks_off t p (ops.Append path bytes) has.0 log begun s.planned there s.here.1 has.1; sure = tt; is = refl }
published_by g t p done place o swept log begun part (ops.Rename from to) at u before may s b =
    let m : Machine = record { plan = p; stage = stages.Publishing; done = done; place = place; outcome = o; swept = swept } in
    let ended : stopped_as m ≡ shorts.Unfinished No = ap (λ x. if nat_lt 0 (bytes_in x) then shorts.Unfinished Unknown else shorts.Unfinished No) at in
    record { ended = shorts.Unfinished No; carried = subst (λ x. CarriedOut t p x false (log ++ begun)) ended (g.stop t m log begun s (asked_in_part (asked m) part begun b)); sure = tt; is = refl }
published_by g t p done place o swept log begun part (ops.Cut path len) at u before may s b = elim may [ ]
published_by g t p done place o swept log begun part (ops.Remove path) at u before may s b = elim may [ ]
published_by g t p done place o swept log begun part (ops.Create path bytes) at u before may s b = elim may [ ]
published_by g t p done place o swept log begun part (ops.Sync path) at u before may s b = elim may [ ]
published_by g t p done place o swept log begun part ops.Settle at u before may s b = elim may [ ]

ends_by : Going → (t : Tree) (p : Plan) (s : Stage) (done place : ℕ) (o : Short) (swept : Bool) (log begun : List Op) (part : ℕ)
    → let m : Machine = record { plan = p; stage = s; done = done; place = place; outcome = o; swept = swept } in SoFar t m log → IsBegun (asked m) part begun → IsSure o → IsNotAsking s → EndsAs t p (is_published m) (log ++ begun)
ends_by g t p s done place o swept log begun part = by s
  where
    at : Stage → Machine
    at s = record { plan = p; stage = s; done = done; place = place; outcome = o; swept = swept }

    stops : (s : Stage) → SoFar t (at s) log → IsBegun (asked (at s)) part begun → CarriedOut t p (stopped_as (at s)) false (log ++ begun)
    stops s so b = g.stop t (at s) log begun so (asked_in_part (asked (at s)) part begun b)

    by : (s : Stage) → SoFar t (at s) log → IsBegun (asked (at s)) part begun → IsSure o → IsNotAsking s → EndsAs t p (is_published (at s)) (log ++ begun)
    by stages.Preparing so b sure not = record { ended = shorts.Fault; carried = stops stages.Preparing so b; sure = tt; is = refl }
    by stages.Beginning so b sure not = record { ended = shorts.Fault; carried = stops stages.Beginning so b; sure = tt; is = refl }
    by stages.Working so b sure not = record { ended = shorts.Unfinished No; carried = stops stages.Working so b; sure = tt; is = refl }
    by stages.Publishing so b sure not =
        let planned = so.planned in
        published_by g t p done place o swept log begun part planned.publishing (ap (slice_get p.ops.items) so.here.0 ∙ planned.at_publish) (after_all (take p.publish p.ops.items) t) p.before planned.publishes so b
    by stages.Asking so b sure not = absurd not
    by stages.Finishing so b sure not = record { ended = shorts.Unfinished Yes; carried = stops stages.Finishing so b; sure = tt; is = refl }
    by stages.Undoing so b sure not = record { ended = shorts.Unfinished No; carried = stops stages.Undoing so b; sure = tt; is = refl }
    by stages.Sweeping so b sure not = record { ended = o; carried = stops stages.Sweeping so b; sure = sure; is = refl }
    by stages.Removing so b sure not = record { ended = o; carried = stops stages.Removing so b; sure = sure; is = refl }

-- a machine that asks for no size is not asking what stands
pub not_asking : (t : Tree) (p : Plan) (s : Stage) (done place : ℕ) (o : Short) (swept : Bool) (log : List Op)
    → let m : Machine = record { plan = p; stage = s; done = done; place = place; outcome = o; swept = swept } in SoFar t m log → (IsSizing (asked m) → ⊥) → IsNotAsking s
not_asking t p stages.Asking done place o swept log so sized =
    let stands = so.here.2 in
    let there : slice_get p.ops.items done ≡ Some (ops.Append stands.path (stands.front ++ stands.back)) = ap (slice_get p.ops.items) so.here.0 ∙ stands.publishes in
    sized (subst (λ x. IsSizing (question_of x (λ y. true))) (sym there) tt)
not_asking t p stages.Preparing done place o swept log so sized = tt
not_asking t p stages.Beginning done place o swept log so sized = tt
not_asking t p stages.Working done place o swept log so sized = tt
not_asking t p stages.Publishing done place o swept log so sized = tt
not_asking t p stages.Finishing done place o swept log so sized = tt
not_asking t p stages.Undoing done place o swept log so sized = tt
not_asking t p stages.Sweeping done place o swept log so sized = tt
not_asking t p stages.Removing done place o swept log so sized = tt

-- ---- what that publishes

-- A log leads on from a state to one at rest, and publishes transactions of these commands.
pub record Leads (s : State) (log : List Op) (commands : List Command) : Type 0 where
  pub left : Option (List Op)
  pub turns : List Turn
  pub leads : LeadsOn s log turns left
  pub are : commands_of turns ≡ commands

by_end : (s : State) (log : List Op) (o : Order) (rev : ℕ) (node : Node) (ended : Short) → IsSure ended → LeadsAs s log o (outcome_of_ended ended rev node) → Leads s log (one_if (is_published_end ended) o.command)
by_end s log o rev node shorts.Done sure (x, is, leads) = record { left = None; turns = x ∷ []; leads = leads; are = ap (λ c. c ∷ []) is.command }
by_end s log o rev node shorts.Fault sure h = record { left = None; turns = []; leads = h; are = refl }
by_end s log o rev node shorts.Memory sure h = record { left = None; turns = []; leads = h; are = refl }
by_end s log o rev node (shorts.Unfinished No) sure (left, leads) = record { left = Some left; turns = []; leads = leads; are = refl }
by_end s log o rev node (shorts.Unfinished Yes) sure (left, (x, is, leads)) = record { left = Some left; turns = x ∷ []; leads = leads; are = ap (λ c. c ∷ []) is.command }
by_end s log o rev node (shorts.Unfinished Unknown) sure h = absurd sure

-- at any moment of its work a writer has published its command, or none, as its machine says
pub leads_at : Going → Calling → (s : State) (command : Command) (w : Working) (done : List Op) → IsAtRest None s → Stands s.files (current s) → IsValid command → ListsPaths s.files (current s) → HasCome command s.files w done → IsSure w.machine.outcome → IsNotAsking w.machine.stage
    → Leads s done (one_if (is_published w.machine) command)
leads_at g c s command w done rest stands valid lists come sure not =
    let u = after_all come.locking s.files in
    let k = come.worked in
    let m = w.machine in
    let ends : EndsAs u m.plan (is_published m) (k.log ++ k.begun) = ends_by g u m.plan m.stage m.done m.place m.outcome m.swept k.log k.begun w.part k.so_far k.is_begun sure not in
    let carried : CarriedOut u come.planned.plan ends.ended false come.working = subst (λ p. CarriedOut u p ends.ended false come.working) k.plan (subst (CarriedOut u m.plan ends.ended false) (sym k.whole) ends.carried) in
    let answer : Answer = record { outcome = outcome_of_ended ends.ended come.planned.rev come.planned.node; swept = false } in
    let written : IsWrittenFor who command s.files answer (Some (come.planned.rev, come.planned.node)) done =
    has_plan come.planned come.locking come.working done come.locked come.plans (record { ended = ends.ended; carried = carried; outcome = refl }) come.whole in
    let order : Order = record { who = who; command = command; changeset = Some (come.planned.rev, come.planned.node) } in
    subst (λ b. Leads s done (one_if b command)) ends.is
    (by_end s done order come.planned.rev come.planned.node ends.ended ends.sure (c.own s command who answer (Some (come.planned.rev, come.planned.node)) done rest stands valid lists written))
