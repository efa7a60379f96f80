-- A machine that stops where it stands.
use Rattle.std.proofs.Common.{◌≡◌, ℕ, ◌<◌, ◌≤◌, List, [], ◌∷◌, ◌++◌, length, drop, refl, sym, ◌∙◌, ap, subst, inl, inr, arith, append-nil, Bool, true, false, if◌then◌else◌}
use Rattle.std.specs.Prelude.{◌⊎◌, Option, Some, None, slice_get, nat_lt}
use Rattle.std.proofs.lemmas.Bool.Decides.{nat_tests}
use Rattle.hgs_files.specs.declared.op.Op.{Op}
use Rattle.hgs_files.specs.declared.op.Op.TheVariants.{Append, Cut, Rename, Remove, Create, Sync, Settle}
use Rattle.hgs_files.specs.Tree.{Tree}
use Rattle.hgs_transaction.specs.declared.assemble.Plan.{Plan}
use Rattle.hgs_machine.specs.declared.ended.Published.TheVariants.{No, Yes, Unknown}
use Rattle.hgs_machine.specs.declared.ended.Short.{Short}
use Rattle.hgs_machine.specs.declared.ended.Short.TheVariants.{Fault, Unfinished}
use Rattle.hgs_machine.specs.declared.machine.Machine.{Machine}
use Rattle.hgs_machine.specs.declared.machine.Reply.TheVariants.{Failed}
use Rattle.hgs_machine.specs.declared.machine.Stage.{Stage}
use Rattle.hgs_machine.specs.declared.machine.Stage.TheVariants.{Preparing, Beginning, Working, Publishing, Asking, Finishing, Undoing, Sweeping, Removing}
use Rattle.hgs_machine.specs.Asked.{Question, Doing, Sizing, Ending, asked, bytes_in, op_at}
use Rattle.hgs_machine.specs.Course.{AreSome, CarriedOut, Ends, between, removals_after, unsure}
use Rattle.hgs_machine.specs.Planned.{IsPlanned}
use Rattle.hgs_machine.specs.SoFar.{IsInPart, Leaves, Replies, SoFar, SweepsTo, stops_as, sweep_from}
use Rattle.hgs_machine.proofs.Ending.{past}
use Rattle.hgs_machine.proofs.Feeding.{asking-not, gives-up, gives-up-beginning, named-none, is-removal, removed-none, works-stopped}
use Rattle.hgs_machine.proofs.Lists.{between-split}
use Rattle.hgs_machine.proofs.Pieces.{done-in-part, done-none}
use Rattle.hgs_machine.proofs.Publishing.{unpublished}
use Rattle.hgs_machine.proofs.Replied.{AtHand, at-stage, is-here}
use Rattle.hgs_machine.proofs.Stages.{breaks-behind, breaks-undoing, none-there, removals-left, take-all}

none_of : (all : List Op) → AreSome all []
none_of [] = refl
none_of (op ∷ all) = inl (none_of all)

some_of_front : (all more log : List Op) → AreSome all log → AreSome (all ++ more) log
some_of_front [] more log h = subst (AreSome more) (sym h) (none_of more)
some_of_front (op ∷ all) more log (inl h) = inl (some_of_front all more log h)
some_of_front (op ∷ all) more log (inr h) = inr (h.0, h.1, some_of_front all more h.0 h.2)

-- it ended so, with no removal done yet
ends-so : (t : Tree) (p : Plan) (outcome : Short) (log : List Op) → Ends p outcome log → CarriedOut t p outcome false log
ends-so t p outcome log h = record { own = log; removed = []; ends = h; some = none_of (removals_after outcome); whole = sym (append-nil log); gone = λ e. absurd (let no : ⊥ = cc in no) }

-- within the removals
sweeps-so : (t : Tree) (p : Plan) (place : ℕ) (outcome : Short) (log : List Op) → IsPlanned t p → SweepsTo p place outcome log → CarriedOut t p outcome false log
sweeps-so t p place outcome log planned h =
    let from = sweep_from p outcome in
    let whole : between from (length p.ops.items) p.ops.items ≡ removals_after outcome = ap (λ (l : List Op). drop from l) (take-all p.ops.items (length p.ops.items) (omega arith)) ∙ removals-left t p outcome planned in
    let split = between-split p.ops.items from place (length p.ops.items) h.from h.to in
    record {
      own = h.own;
      removed = h.removed;
      ends = h.ends;
      some = subst (λ (l : List Op). AreSome l h.removed) (sym split ∙ whole) (some_of_front (between from place p.ops.items) (between place (length p.ops.items) p.ops.items) h.removed h.some);
      whole = h.whole;
      gone = λ e. absurd (let no : ⊥ = cc in no);
    }

-- ---- what is at hand

nothing-of : (op : Op) → Leaves op Failed []
nothing-of (Append path bytes) = (Append path bytes ∷ [], done-none (Append path bytes ∷ []) [] refl)
nothing-of (Create path bytes) = (Create path bytes ∷ [], done-none (Create path bytes ∷ []) [] refl)
nothing-of (Cut path len) = refl
nothing-of (Rename from to) = refl
nothing-of (Remove path) = refl
nothing-of (Sync path) = refl
nothing-of Settle = refl

hand-by : (t : Tree) (m : Machine) (s : Stage) (q : Question) (op : Op) (more : List Op) → m.stage ≡ s → op_at m.plan s m.done m.place ≡ Some op → asked m ≡ q → IsInPart q more → AtHand m s Failed more
hand-by t m s (Doing o) op more e there a h = at-stage t m s Failed more e tt (subst (λ q. Replies t q Failed more) (sym a) h)
hand-by t m s (Sizing path) op more e there a h = record { op = op; there = there; leaves = subst (Leaves op Failed) (sym h) (nothing-of op) }
hand-by t m s Ending op more e there a h = record { op = op; there = there; leaves = subst (Leaves op Failed) (sym h) (nothing-of op) }

some-or-none : (o : Option Op) → ((op : Op) × (o ≡ Some op)) ⊎ (o ≡ None)
some-or-none (Some op) = inl (op, refl)
some-or-none None = inr refl

-- an operation is at hand before the removals
at-hand-by : (t : Tree) (m : Machine) (s : Stage) (more : List Op) → (op_at m.plan s m.done m.place ≡ None → ⊥) → m.stage ≡ s → IsInPart (asked m) more → AtHand m s Failed more
at-hand-by t m s more some e h = by (some-or-none (op_at m.plan s m.done m.place))
  where
    by : ((op : Op) × (op_at m.plan s m.done m.place ≡ Some op)) ⊎ (op_at m.plan s m.done m.place ≡ None) → AtHand m s Failed more
    by (inl is) = hand-by t m s (asked m) is.0 more e is.1 refl h
    by (inr none) = absurd (some none)

-- ---- at each stage

-- while it is undone
undoing-so : (t : Tree) (m : Machine) (log more : List Op) → m.stage ≡ Undoing → SoFar t m log → AtHand m Undoing Failed more → CarriedOut t m.plan (Unfinished No) false (log ++ more)
undoing-so t m log more e h hand =
    let here = is-here t m Undoing log e h in
    ends-so t m.plan (Unfinished No) (log ++ more) (breaks-undoing t m.plan m.place hand.op log more h.planned hand.there here.2 hand.leaves)

-- where the undoing would begin
undoes-so : (t : Tree) (m : Machine) (log : List Op) → m.stage ≡ Undoing → SoFar t m log → CarriedOut t m.plan (Unfinished No) false log
undoes-so t m log e h =
    let here = is-here t m Undoing log e h in
    by (some-or-none (slice_get m.plan.undo.items m.place)) here.0
  where
    by : ((op : Op) × (slice_get m.plan.undo.items m.place ≡ Some op)) ⊎ (slice_get m.plan.undo.items m.place ≡ None) → m.place < length m.plan.undo.items → CarriedOut t m.plan (Unfinished No) false log
    by (inl is) less = subst (CarriedOut t m.plan (Unfinished No) false) (append-nil log) (undoing-so t m log [] e h (record { op = is.0; there = is.1; leaves = nothing-of is.0 }))
    by (inr none) less = let most = none-there m.plan.undo.items m.place none in absurd (omega arith)

asks-so : (t : Tree) (m : Machine) (log : List Op) → m.stage ≡ Asking → SoFar t m log → CarriedOut t m.plan (Unfinished Unknown) false log
asks-so t m log e h =
    let here = is-here t m Asking log e h in
    let part = here.2 in
    ends-so t m.plan (Unfinished Unknown) log (unsure part.path part.front part.back log part.publishes part.has_begun)

sweeps-at : (t : Tree) (m : Machine) (log : List Op) → m.stage ≡ Sweeping → SoFar t m log → CarriedOut t m.plan m.outcome false log
sweeps-at t m log e h = sweeps-so t m.plan m.place m.outcome log h.planned (is-here t m Sweeping log e h)

removes-at : (t : Tree) (m : Machine) (log : List Op) → m.stage ≡ Removing → SoFar t m log → CarriedOut t m.plan m.outcome false log
removes-at t m log e h = sweeps-so t m.plan m.place m.outcome log h.planned (is-here t m Removing log e h)

-- of a stage before the removals an operation of the plan is at hand
planned-at : (t : Tree) (p : Plan) (done : ℕ) → IsPlanned t p → done ≤ p.commit → slice_get p.ops.items done ≡ None → ⊥
planned-at t p done h within none = past t p done h within none

-- the publishing operation fails: an append may stand in part
publishes-so : (t : Tree) (m : Machine) (log more : List Op) → m.stage ≡ Publishing → SoFar t m log → AtHand m Publishing Failed more → (b : Bool) → b ≡ nat_lt 0 (bytes_in (slice_get m.plan.ops.items m.done))
    → CarriedOut t m.plan (if b then Unfinished Unknown else Unfinished No) false (log ++ more)
publishes-so t m log more e h hand true is =
    let some : 0 < bytes_in (slice_get m.plan.ops.items m.done) = grind (arith, nat_tests) in
    let next = record m { stage = Asking; outcome = Fault } in
    asks-so t next (log ++ more) refl (unpublished t m next log more e (λ k. refl) (λ k. absurd (omega arith)) h hand)
publishes-so t m log more e h hand false is =
    let none : bytes_in (slice_get m.plan.ops.items m.done) ≡ 0 = grind (arith, nat_tests) in
    let next = record m { stage = Undoing; place = 0; outcome = Fault } in
    undoes-so t next (log ++ more) refl (unpublished t m next log more e (λ k. absurd (omega arith)) (λ k. refl) h hand)

-- what is done of a removal that fails
removal-so : (t : Tree) (m : Machine) (s : Stage) (log more : List Op) → SweepsTo m.plan m.place m.outcome log → SoFar t m log → (op : Op) → slice_get m.plan.ops.items m.place ≡ Some op → Leaves op Failed more → CarriedOut t m.plan m.outcome false (log ++ more)
removal-so t m s log more here h op there leaves =
    let path = is-removal t m.plan m.place m.outcome op log h.planned here there in
    let none : more ≡ [] = removed-none op path.0 more path.1 leaves in
    subst (CarriedOut t m.plan m.outcome false) (sym (ap (λ l. log ++ l) none ∙ append-nil log)) (sweeps-so t m.plan m.place m.outcome log h.planned here)

swept-by : (t : Tree) (m : Machine) (s : Stage) (q : Question) (log more : List Op) → m.stage ≡ s → op_at m.plan s m.done m.place ≡ slice_get m.plan.ops.items m.place → SweepsTo m.plan m.place m.outcome log → SoFar t m log → asked m ≡ q → IsInPart q more → CarriedOut t m.plan m.outcome false (log ++ more)
swept-by t m s (Doing op) log more e at here h a i =
    let hand = at-stage t m s Failed more e tt (subst (λ q. Replies t q Failed more) (sym a) i) in
    removal-so t m s log more here h hand.op (sym at ∙ hand.there) hand.leaves
swept-by t m s (Sizing path) log more e at here h a i = subst (CarriedOut t m.plan m.outcome false) (sym (ap (λ l. log ++ l) i ∙ append-nil log)) (sweeps-so t m.plan m.place m.outcome log h.planned here)
swept-by t m s Ending log more e at here h a i = subst (CarriedOut t m.plan m.outcome false) (sym (ap (λ l. log ++ l) i ∙ append-nil log)) (sweeps-so t m.plan m.place m.outcome log h.planned here)

-- no operation is done while the size is asked for
asking-by : (t : Tree) (m : Machine) (q : Question) (log more : List Op) → m.stage ≡ Asking → SoFar t m log → asked m ≡ q → IsInPart q more → CarriedOut t m.plan (Unfinished Unknown) false (log ++ more)
asking-by t m (Doing op) log more e h a i = asking-not t t m Failed log more e h tt (subst (λ q. Replies t q Failed more) (sym a) i)
asking-by t m (Sizing path) log more e h a i = subst (CarriedOut t m.plan (Unfinished Unknown) false) (sym (ap (λ l. log ++ l) i ∙ append-nil log)) (asks-so t m log e h)
asking-by t m Ending log more e h a i = subst (CarriedOut t m.plan (Unfinished Unknown) false) (sym (ap (λ l. log ++ l) i ∙ append-nil log)) (asks-so t m log e h)

stops-at : (t : Tree) (m : Machine) (s : Stage) (log more : List Op) → m.stage ≡ s → SoFar t m log → IsInPart (asked m) more → CarriedOut t m.plan (stops_as s (bytes_in (slice_get m.plan.ops.items m.done)) m.outcome) false (log ++ more)
stops-at t m Preparing log more e h i =
    let here = is-here t m Preparing log e h in
    let hand = at-hand-by t m Preparing more (planned-at t m.plan m.done h.planned (let a = h.planned.journal in let b = h.planned.publish in let c = here.0 in omega arith)) e i in
    ends-so t m.plan Fault (log ++ more) (gives-up t m Failed log more e h (λ op. done-in-part op more) hand)
stops-at t m Beginning log more e h i =
    let here = is-here t m Beginning log e h in
    let hand = at-hand-by t m Beginning more (planned-at t m.plan m.done h.planned (let a = h.planned.journal in let b = h.planned.publish in let c = here.0 in omega arith)) e i in
    ends-so t m.plan Fault (log ++ more) (gives-up-beginning t m log more e h (named-none t m Failed log more e h hand (λ op leaves. leaves)))
stops-at t m Working log more e h i =
    let here = is-here t m Working log e h in
    let hand = at-hand-by t m Working more (planned-at t m.plan m.done h.planned (let b = h.planned.publish in let c = here.1 in omega arith)) e i in
    let next = record m { stage = Undoing; place = 0; outcome = Fault } in
    undoes-so t next (log ++ more) refl (works-stopped t m next Fault Failed log more e refl tt (λ op. done-in-part op more) h hand)
stops-at t m Publishing log more e h i =
    let here = is-here t m Publishing log e h in
    let hand = at-hand-by t m Publishing more (planned-at t m.plan m.done h.planned (let b = h.planned.publish in let c = here.0 in omega arith)) e i in
    publishes-so t m log more e h hand (nat_lt 0 (bytes_in (slice_get m.plan.ops.items m.done))) refl
stops-at t m Asking log more e h i = asking-by t m (asked m) log more e h refl i
stops-at t m Finishing log more e h i =
    let here = is-here t m Finishing log e h in
    let hand = at-hand-by t m Finishing more (planned-at t m.plan m.done h.planned here.1) e i in
    ends-so t m.plan (Unfinished Yes) (log ++ more) (breaks-behind t m.plan m.done hand.op log more h.planned here.0 here.1 hand.there here.2 hand.leaves)
stops-at t m Undoing log more e h i =
    let here = is-here t m Undoing log e h in
    let hand = at-hand-by t m Undoing more (λ none. let most = none-there m.plan.undo.items m.place none in let less = here.0 in absurd (omega arith)) e i in
    undoing-so t m log more e h hand
stops-at t m Sweeping log more e h i = swept-by t m Sweeping (asked m) log more e refl (is-here t m Sweeping log e h) h refl i
stops-at t m Removing log more e h i = swept-by t m Removing (asked m) log more e refl (is-here t m Removing log e h) h refl i

pub stops : (t : Tree) (m : Machine) (log more : List Op) → SoFar t m log → IsInPart (asked m) more → CarriedOut t m.plan (stops_as m.stage (bytes_in (slice_get m.plan.ops.items m.done)) m.outcome) false (log ++ more)
stops t m log more h i = stops-at t m m.stage log more refl h i
