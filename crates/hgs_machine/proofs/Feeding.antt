-- What stands in the log once a reply was taken.
use Rattle.std.proofs.Common.{◌≡◌, ℕ, zero, suc, ◌+◌, ◌<◌, ◌≤◌, ◌==◌, List, [], ◌∷◌, ◌++◌, length, map, take, ◌-◌, refl, sym, ◌∙◌, ap, subst, inl, inr, arith, append-nil, Bool, true, false}
use Rattle.std.specs.Prelude.{◌⊎◌, ◌&&◌, Some, None, slice_get, if◌then◌else◌}
use Rattle.std.proofs.lemmas.Bool.Decides.{nat_tests}
use Rattle.hgs_files.specs.declared.op.Op.{Op}
use Rattle.hgs_files.specs.declared.op.Op.TheVariants.{Append, Remove, Rename}
use Rattle.hgs_files.specs.Log.{IsDone}
use Rattle.hgs_files.specs.Tree.{Tree, after_all}
use Rattle.hgs_journal.specs.Names.{journal_path, new_journal_path}
use Rattle.hgs_ops.specs.Operations.{lock_path, strays, wlock_path}
use Rattle.hgs_transaction.specs.declared.assemble.Plan.{Plan}
use Rattle.hgs_machine.specs.declared.ended.Published.TheVariants.{No, Yes}
use Rattle.hgs_machine.specs.declared.ended.Short.{Short}
use Rattle.hgs_machine.specs.declared.ended.Short.TheVariants.{Done as AllDone, Fault, Unfinished, Memory as OutOfMemory}
use Rattle.hgs_machine.specs.declared.machine.Machine.{Machine}
use Rattle.hgs_machine.specs.declared.machine.Reply.{Reply}
use Rattle.hgs_machine.specs.declared.machine.Reply.TheVariants.{Done, Failed, Memory}
use Rattle.hgs_machine.specs.declared.machine.Stage.{Stage}
use Rattle.hgs_machine.specs.declared.machine.Stage.TheVariants.{Preparing, Beginning, Working, Publishing, Asking, Finishing, Undoing, Sweeping}
use Rattle.hgs_machine.specs.Asked.{asked}
use Rattle.hgs_machine.specs.Course.{Ends, HasBegun, IsTakenBack, given_up, through_publishing}
use Rattle.hgs_machine.specs.Planned.{IsPlanned}
use Rattle.hgs_machine.specs.SoFar.{FinishesTo, IsAt, IsSwept, SweepsAllTo, UndoesTo, WorksTo, IsRefusal, Leaves, Replies, SoFar, SweepsTo, sweep_from}
use Rattle.hgs_machine.proofs.Lists.{get-add}
use Rattle.hgs_machine.proofs.Pieces.{denied-failed, done-all, done-none, none-done}
use Rattle.hgs_machine.proofs.Replied.{AtHand, IsOfOp, asks-no-op, either, is-here}
use Rattle.hgs_machine.proofs.Stages.{breaks-behind, breaks-undoing, finishes-first, finishes-more, gone-already, gone-more, none-yet, is-carried, is-undone, left-at-publish, left-to-publish, prepared-in-part, prepared-more, so-many, sweeps-done, removals-behind, sweeps-first, sweeps-past, undoes-first, undoes-more, works-first, works-in-part, works-more}

sweep-within : (t : Tree) (p : Plan) (outcome : Short) → IsPlanned t p → sweep_from p outcome ≤ length p.ops.items
sweep-within t p AllDone h = let many = so-many t p h in omega arith
sweep-within t p Fault h = let many = so-many t p h in omega arith
sweep-within t p OutOfMemory h = let many = so-many t p h in omega arith
sweep-within t p (Unfinished published) h = omega arith

pub before-or-at : (a b : ℕ) → (a < b) ⊎ (b ≤ a)
before-or-at zero zero = inr (omega arith)
before-or-at zero (suc b) = inl (omega arith)
before-or-at (suc a) zero = inr (omega arith)
before-or-at (suc a) (suc b) = either (before-or-at a b) (λ h. inl (omega arith)) (λ h. inr (omega arith))

-- it ended, and the removals begin
pub sweeps : (t : Tree) (m new : Machine) (outcome : Short) (log : List Op) → new ≡ record m { stage = Sweeping; place = sweep_from m.plan outcome; outcome = outcome } → IsPlanned t m.plan → Ends m.plan outcome log → SoFar t new log
sweeps t m new outcome log e planned ends =
    subst (λ (x : Machine). SoFar t x log) (sym e) (record { planned = planned; here = sweeps-first m.plan outcome log ends (sweep-within t m.plan outcome planned); gone = none-yet t m.plan outcome m.swept log })

-- the undoing begins
pub undoes : (t : Tree) (m new : Machine) (outcome : Short) (log : List Op) (op : Op) (left : List Op) → new ≡ record m { stage = Undoing; place = 0; outcome = outcome } → IsRefusal outcome → IsPlanned t m.plan → HasBegun m.plan (through_publishing m.plan) log (op ∷ left) → SoFar t new log
undoes t m new outcome log op left e refusal planned h =
    subst (λ (x : Machine). SoFar t x log) (sym e) (record { planned = planned; here = (some-to-undo m.plan.undo.items planned.undo.0 planned.undo.1, refusal, undoes-first m.plan log op left h); gone = tt })
  where
    some-to-undo : (ops front : List Op) → ops ≡ front ++ Remove journal_path ∷ [] → 0 < length ops
    some-to-undo ops [] e = let l = ap length e in omega arith
    some-to-undo ops (x ∷ front) e = let l = ap length e in omega arith

-- the next removal
pub passes : (t : Tree) (m new : Machine) (swept : Bool) (log : List Op) → new ≡ record m { stage = Sweeping; place = m.place + 1; swept = swept } → IsPlanned t m.plan → SweepsTo m.plan (m.place + 1) m.outcome log → SweepsAllTo t m.plan (m.place + 1) m.outcome swept log → SoFar t new log
passes t m new swept log e planned h gone = subst (λ (x : Machine). SoFar t x log) (sym e) (record { planned = planned; here = h; gone = gone })

same-log : (log more : List Op) → more ≡ [] → log ++ more ≡ log
same-log log more e = ap (λ (l : List Op). log ++ l) e ∙ append-nil log

-- ---- where there was no memory, or the operation failed

-- what was left in part before the journal
pub gives-up : (t : Tree) (m : Machine) (r : Reply) (log more : List Op) → m.stage ≡ Preparing → SoFar t m log → ((op : Op) → Leaves op r more → (left : List Op) × IsDone (op ∷ []) more left) → AtHand m Preparing r more → IsTakenBack m.plan (log ++ more)
gives-up t m r log more e h part hand =
    let here = is-here t m Preparing log e h in
    let some = part hand.op hand.leaves in
    let rest = prepared-in-part m.plan m.done hand.op log more some.0 here.0 hand.there here.1 some.1 in
    given_up (log ++ more) rest.0 rest.1

pub gives-up-beginning : (t : Tree) (m : Machine) (log more : List Op) → m.stage ≡ Beginning → SoFar t m log → more ≡ [] → IsTakenBack m.plan (log ++ more)
gives-up-beginning t m log more e h none =
    let here = is-here t m Beginning log e h in
    subst (IsTakenBack m.plan) (sym (same-log log more none)) (given_up log [] here.1)

pub nothing-of-it : (op : Op) (more : List Op) → Leaves op Memory more → (left : List Op) × IsDone (op ∷ []) more left
nothing-of-it op more h = (op ∷ [], done-none (op ∷ []) more (none-done op more h))

pub works-stopped : (t : Tree) (m new : Machine) (outcome : Short) (r : Reply) (log more : List Op) → m.stage ≡ Working → new ≡ record m { stage = Undoing; place = 0; outcome = outcome } → IsRefusal outcome
    → ((op : Op) → Leaves op r more → (left : List Op) × IsDone (op ∷ []) more left) → SoFar t m log → AtHand m Working r more → SoFar t new (log ++ more)
works-stopped t m new outcome r log more e n refusal part h hand =
    let here = is-here t m Working log e h in
    let some = part hand.op hand.leaves in
    let left = left-to-publish t m.plan m.done some.0 h.planned here.1 in
    undoes t m new outcome (log ++ more) left.0 left.1 n refusal h.planned
    (subst (HasBegun m.plan (through_publishing m.plan) (log ++ more)) left.2 (works-in-part m.plan m.done hand.op log more some.0 (let a = here.0 in omega arith) (let b = here.1 in omega arith) hand.there here.2 some.1))

-- of the publishing operation nothing is done
pub publishes-not : (t : Tree) (m new : Machine) (outcome : Short) (op : Op) (log more : List Op) → m.stage ≡ Publishing → new ≡ record m { stage = Undoing; place = 0; outcome = outcome } → IsRefusal outcome → more ≡ []
    → SoFar t m log → slice_get m.plan.ops.items m.done ≡ Some op → SoFar t new (log ++ more)
publishes-not t m new outcome op log more e n refusal none h there =
    let here = is-here t m Publishing log e h in
    let p = m.plan in
    let at = subst (λ k. slice_get p.ops.items k ≡ Some op) here.0 there in
    let before = let b = h.planned.journal in b in
    undoes t m new outcome (log ++ more) op [] n refusal h.planned
    (subst (HasBegun p (through_publishing p) (log ++ more)) (left-at-publish p (op ∷ [])) (works-in-part p p.publish op log more (op ∷ []) (omega arith) (omega arith) at here.1 (done-none (op ∷ []) more none)))

same-op : {a b : Op} → Some a ≡ Some b → a ≡ b
same-op e = cc

-- ---- where the operation was done

pub prepares : (t : Tree) (m new : Machine) (stage : Stage) (log more : List Op) → m.stage ≡ Preparing → stage ≡ (if m.done + 1 == m.plan.journal then Beginning else Preparing) → new ≡ record m { stage = stage; done = m.done + 1 } → SoFar t m log → AtHand m Preparing Done more → SoFar t new (log ++ more)
prepares t m new stage log more e s n h hand =
    let here = is-here t m Preparing log e h in
    let more-done = prepared-more m.plan m.done hand.op log more hand.there here.1 (done-all hand.op more hand.leaves) in
    subst (λ (x : Machine). SoFar t x (log ++ more)) (sym n) (subst (λ (x : Stage). SoFar t (record m { stage = x; done = m.done + 1 }) (log ++ more)) (sym s) (by (m.done + 1 == m.plan.journal) refl here.0 more-done h.planned))
  where
    by : (b : Bool) → (m.done + 1 == m.plan.journal) ≡ b → m.done < m.plan.journal → IsDone (take (m.done + 1) m.plan.ops.items) (log ++ more) [] → IsPlanned t m.plan → SoFar t (record m { stage = if b then Beginning else Preparing; done = m.done + 1 }) (log ++ more)
    by true q within d planned =
        let same : m.done + 1 ≡ m.plan.journal = grind (arith, nat_tests) in
        record { planned = planned; here = (same, subst (λ k. IsDone (take k m.plan.ops.items) (log ++ more) []) same d); gone = tt }
    by false q within d planned =
        let apart : m.done + 1 < m.plan.journal = grind (arith, nat_tests) in
        record { planned = planned; here = (apart, d); gone = tt }

pub works-on : (t : Tree) (m new : Machine) (stage : Stage) (log more : List Op) → WorksTo m.plan (m.done + 1) (log ++ more) → m.plan.journal < m.done + 1 → m.done < m.plan.publish → stage ≡ (if m.done + 1 == m.plan.publish then Publishing else Working) → new ≡ record m { stage = stage; done = m.done + 1 } → IsPlanned t m.plan → SoFar t new (log ++ more)
works-on t m new stage log more d later before s n planned =
    subst (λ (x : Machine). SoFar t x (log ++ more)) (sym n) (subst (λ (x : Stage). SoFar t (record m { stage = x; done = m.done + 1 }) (log ++ more)) (sym s) (by (m.done + 1 == m.plan.publish) refl))
  where
    by : (b : Bool) → (m.done + 1 == m.plan.publish) ≡ b → SoFar t (record m { stage = if b then Publishing else Working; done = m.done + 1 }) (log ++ more)
    by true q =
        let same : m.done + 1 ≡ m.plan.publish = grind (arith, nat_tests) in
        record { planned = planned; here = (same, subst (λ k. WorksTo m.plan k (log ++ more)) same d); gone = tt }
    by false q =
        let apart : m.done + 1 < m.plan.publish = grind (arith, nat_tests) in
        record { planned = planned; here = (later, apart, d); gone = tt }

pub begins : (t : Tree) (m new : Machine) (stage : Stage) (log more : List Op) → m.stage ≡ Beginning → stage ≡ (if m.done + 1 == m.plan.publish then Publishing else Working) → new ≡ record m { stage = stage; done = m.done + 1 } → SoFar t m log → AtHand m Beginning Done more → SoFar t new (log ++ more)
begins t m new stage log more e s n h hand =
    let here = is-here t m Beginning log e h in
    let at = subst (λ k. slice_get m.plan.ops.items k ≡ Some hand.op) here.0 hand.there in
    let d = works-first m.plan hand.op log more at here.1 (done-all hand.op more hand.leaves) in
    works-on t m new stage log more (subst (λ k. WorksTo m.plan (k + 1) (log ++ more)) (sym here.0) d) (let a = here.0 in omega arith) (let a = here.0 in let b = h.planned.journal in omega arith) s n h.planned

pub works : (t : Tree) (m new : Machine) (stage : Stage) (log more : List Op) → m.stage ≡ Working → stage ≡ (if m.done + 1 == m.plan.publish then Publishing else Working) → new ≡ record m { stage = stage; done = m.done + 1 } → SoFar t m log → AtHand m Working Done more → SoFar t new (log ++ more)
works t m new stage log more e s n h hand =
    let here = is-here t m Working log e h in
    let d = works-more m.plan m.done hand.op log more (let a = here.0 in omega arith) hand.there here.2 (done-all hand.op more hand.leaves) in
    works-on t m new stage log more d (let a = here.0 in omega arith) here.1 s n h.planned

pub publishes : (t : Tree) (m new : Machine) (log more : List Op) → m.stage ≡ Publishing → new ≡ record m { stage = Finishing; done = m.done + 1 } → SoFar t m log → AtHand m Publishing Done more → SoFar t new (log ++ more)
publishes t m new log more e n h hand =
    let here = is-here t m Publishing log e h in
    let p = m.plan in
    let at = subst (λ k. slice_get p.ops.items k ≡ Some hand.op) here.0 hand.there in
    let before = h.planned.journal in
    let behind = h.planned.publish in
    let d = finishes-first p (log ++ more) (works-more p p.publish hand.op log more (omega arith) at here.1 (done-all hand.op more hand.leaves)) in
    let same = here.0 in
    subst (λ (x : Machine). SoFar t x (log ++ more)) (sym n) (record { planned = h.planned; here = (omega arith, omega arith, subst (λ k. FinishesTo p (k + 1) (log ++ more)) (sym same) d); gone = tt })

pub finishes : (t : Tree) (m new : Machine) (log more : List Op) → m.stage ≡ Finishing → (m.done < m.plan.commit → new ≡ record m { stage = Finishing; done = m.done + 1 }) → (m.plan.commit ≤ m.done → new ≡ record m { stage = Sweeping; done = m.done + 1; place = m.plan.commit + 1; outcome = AllDone })
    → SoFar t m log → AtHand m Finishing Done more → SoFar t new (log ++ more)
finishes t m new log more e on last h hand =
    let here = is-here t m Finishing log e h in
    let p = m.plan in
    let d = finishes-more p m.done hand.op log more here.0 hand.there here.2 (done-all hand.op more hand.leaves) in
    either (before-or-at m.done p.commit) (λ less. goes-on (on less) here.0 less d) (λ most. ends (last most) (let b = here.1 in omega arith) d)
  where
    goes-on : new ≡ record m { stage = Finishing; done = m.done + 1 } → m.plan.publish < m.done → m.done < m.plan.commit → FinishesTo m.plan (m.done + 1) (log ++ more) → SoFar t new (log ++ more)
    goes-on n later less d = subst (λ (x : Machine). SoFar t x (log ++ more)) (sym n) (record { planned = h.planned; here = (omega arith, omega arith, d); gone = tt })

    ends : new ≡ record m { stage = Sweeping; done = m.done + 1; place = m.plan.commit + 1; outcome = AllDone } → m.done ≡ m.plan.commit → FinishesTo m.plan (m.done + 1) (log ++ more) → SoFar t new (log ++ more)
    ends n same d =
        subst (λ (x : Machine). SoFar t x (log ++ more)) (sym n) (record { planned = h.planned; here = sweeps-first m.plan AllDone (log ++ more) (is-carried m.plan (log ++ more) (subst (λ k. FinishesTo m.plan (k + 1) (log ++ more)) same d)) (sweep-within t m.plan AllDone h.planned); gone = none-yet t m.plan AllDone m.swept (log ++ more) })

refusal-ends : (p : Plan) (outcome : Short) (log : List Op) → IsRefusal outcome → IsTakenBack p log → Ends p outcome log
refusal-ends p Fault log i h = h
refusal-ends p OutOfMemory log i h = h
refusal-ends p AllDone log i h = elim i [ ]
refusal-ends p (Unfinished published) log i h = elim i [ ]

pub undoes-on : (t : Tree) (m new : Machine) (log more : List Op) → m.stage ≡ Undoing → (m.place + 1 < length m.plan.undo.items → new ≡ record m { place = m.place + 1 }) → (length m.plan.undo.items ≤ m.place + 1 → new ≡ record m { stage = Sweeping; place = sweep_from m.plan m.outcome })
    → SoFar t m log → AtHand m Undoing Done more → SoFar t new (log ++ more)
undoes-on t m new log more e on last h hand =
    let here = is-here t m Undoing log e h in
    let p = m.plan in
    let d = undoes-more p m.place hand.op log more hand.there here.2 (done-all hand.op more hand.leaves) in
    either (before-or-at (m.place + 1) (length p.undo.items)) (λ less. goes-on (on less) less here.1 d) (λ most. ends (last most) most here.1 d)
  where
    goes-on : new ≡ record m { place = m.place + 1 } → m.place + 1 < length m.plan.undo.items → IsRefusal m.outcome → UndoesTo m.plan (m.place + 1) (log ++ more) → SoFar t new (log ++ more)
    goes-on n less refusal d = subst (λ (x : Machine). SoFar t x (log ++ more)) (sym n) (record { planned = h.planned; here = subst (λ x. IsAt t m.plan x m.done (m.place + 1) m.outcome (log ++ more)) (sym e) (less, refusal, d); gone = subst (λ x. IsSwept t m.plan x (m.place + 1) m.outcome m.swept (log ++ more)) (sym e) tt })

    ends : new ≡ record m { stage = Sweeping; place = sweep_from m.plan m.outcome } → length m.plan.undo.items ≤ m.place + 1 → IsRefusal m.outcome → UndoesTo m.plan (m.place + 1) (log ++ more) → SoFar t new (log ++ more)
    ends n all refusal d = sweeps t m new m.outcome (log ++ more) n h.planned (refusal-ends m.plan m.outcome (log ++ more) refusal (is-undone m.plan (m.place + 1) (log ++ more) all d))

-- the operation at hand is a removal
pub removed-whole : (op : Op) (path : List ℕ) (more : List Op) → op ≡ Remove path → Leaves op Done more → more ≡ op ∷ []
removed-whole op path more e h = subst (λ (o : Op). more ≡ o ∷ []) (sym e) (subst (λ (o : Op). Leaves o Done more) e h)

pub removed-none : (op : Op) (path : List ℕ) (more : List Op) → op ≡ Remove path → Leaves op Failed more → more ≡ []
removed-none op path more e h = let k : Leaves (Remove path) Failed more = subst (λ (o : Op). Leaves o Failed more) e h in k

-- ---- the removals

abbrev IsRemoval : Op → Type 0
IsRemoval op = (path : List ℕ) × (op ≡ Remove path)

all-removals : (paths : List (List ℕ)) (ops : List Op) (k : ℕ) (op : Op) → ((i : ℕ) → slice_get ops i ≡ Some op → IsRemoval op) → slice_get (map (λ path. Remove path) paths ++ ops) k ≡ Some op → IsRemoval op
all-removals [] ops k op more e = more k e
all-removals (path ∷ paths) ops zero op more e = (path, sym (same-op e))
all-removals (path ∷ paths) ops (suc k) op more e = all-removals paths ops k op more e

lock-removal : (i : ℕ) (op : Op) → slice_get (Remove lock_path ∷ Remove wlock_path ∷ []) i ≡ Some op → IsRemoval op
lock-removal zero op e = (lock_path, sym (same-op e))
lock-removal (suc zero) op e = (wlock_path, sym (same-op e))
lock-removal (suc (suc i)) op e = absurd (let no : ⊥ = cc in no)

-- what stands behind the removal of the journal is a removal
pub is-removal : (t : Tree) (p : Plan) (place : ℕ) (outcome : Short) (op : Op) (log : List Op) → IsPlanned t p → SweepsTo p place outcome log → slice_get p.ops.items place ≡ Some op → (path : List ℕ) × (op ≡ Remove path)
is-removal t p place outcome op log planned h at =
    let from = h.from in
    let low : p.commit + 1 ≤ place = from-commit outcome from in
    let split : place ≡ (p.commit + 1) + (place - (p.commit + 1)) = omega arith in
    let there = sym (get-add p.ops.items (p.commit + 1) (place - (p.commit + 1))) ∙ sym (ap (slice_get p.ops.items) split) ∙ at in
    all-removals strays (Remove lock_path ∷ Remove wlock_path ∷ []) (place - (p.commit + 1)) op (λ i e. lock-removal i op e) (ap (λ (l : List Op). slice_get l (place - (p.commit + 1))) (sym (removals-behind t p planned)) ∙ there)
  where
    from-commit : (outcome : Short) → sweep_from p outcome ≤ place → p.commit + 1 ≤ place
    from-commit AllDone h = h
    from-commit Fault h = h
    from-commit OutOfMemory h = h
    from-commit (Unfinished published) h = let many = so-many t p planned in omega arith

pub at-removal : (m : Machine) (op : Op) (path : List ℕ) → slice_get m.plan.ops.items m.place ≡ Some op → op ≡ Remove path → slice_get m.plan.ops.items m.place ≡ Some (Remove path)
at-removal m op path at e = at ∙ ap (λ o. Some o) e

pub passes-done : (t : Tree) (m new : Machine) (op : Op) (log more : List Op) → IsPlanned t m.plan → SweepsTo m.plan m.place m.outcome log → SweepsAllTo t m.plan m.place m.outcome m.swept log → slice_get m.plan.ops.items m.place ≡ Some op → Leaves op Done more
    → new ≡ record m { stage = Sweeping; place = m.place + 1; swept = m.swept && true } → SoFar t new (log ++ more)
passes-done t m new op log more planned h gone at leaves n =
    let removal = is-removal t m.plan m.place m.outcome op log planned h at in
    let whole = removed-whole op removal.0 more removal.1 leaves in
    passes t m new (m.swept && true) (log ++ more) n planned (sweeps-done m.plan m.place m.outcome op log more at h whole)
    (gone-more t m.plan m.place m.outcome m.swept (m.swept && true) removal.0 log more h.from (at-removal m op removal.0 at removal.1) (whole ∙ ap (λ (o : Op). o ∷ []) removal.1) (both-true m.swept true) gone)
  where
    both-true : (a b : Bool) → (a && b) ≡ true → a ≡ true
    both-true true b e = refl
    both-true false b e = absurd (let no : ⊥ = cc in no)

-- it was not removed
pub passes-over : (t : Tree) (m new : Machine) (op : Op) (log more : List Op) → IsPlanned t m.plan → SweepsTo m.plan m.place m.outcome log → SweepsAllTo t m.plan m.place m.outcome m.swept log → slice_get m.plan.ops.items m.place ≡ Some op → more ≡ []
    → new ≡ record m { stage = Sweeping; place = m.place + 1; swept = m.swept && false } → SoFar t new (log ++ more)
passes-over t m new op log more planned h gone at none n =
    let removal = is-removal t m.plan m.place m.outcome op log planned h at in
    passes t m new (m.swept && false) (log ++ more) n planned (sweeps-past m.plan m.place m.outcome op log more at h none)
    (gone-already t m.plan m.place m.outcome m.swept (m.swept && false) removal.0 log more h.from (at-removal m op removal.0 at removal.1) none (λ s. absurd (not-both m.swept s)) gone)
  where
    not-both : (a : Bool) → (a && false) ≡ true → ⊥
    not-both true e = cc
    not-both false e = cc

pub passes-absent : (t : Tree) (m new : Machine) (op : Op) (log more : List Op) → IsPlanned t m.plan → SweepsTo m.plan m.place m.outcome log → SweepsAllTo t m.plan m.place m.outcome m.swept log → slice_get m.plan.ops.items m.place ≡ Some op → more ≡ []
    → ((path : List ℕ) → op ≡ Remove path → after_all log t path ≡ None) → new ≡ record m { stage = Sweeping; place = m.place + 1 } → SoFar t new (log ++ more)
passes-absent t m new op log more planned h gone at none absent n =
    let removal = is-removal t m.plan m.place m.outcome op log planned h at in
    passes t m new m.swept (log ++ more) n planned (sweeps-past m.plan m.place m.outcome op log more at h none)
    (gone-already t m.plan m.place m.outcome m.swept m.swept removal.0 log more h.from (at-removal m op removal.0 at removal.1) none (λ s. (s, absent removal.0 removal.1)) gone)

pub passes-failed : (t : Tree) (m new : Machine) (op : Op) (log more : List Op) → IsPlanned t m.plan → SweepsTo m.plan m.place m.outcome log → SweepsAllTo t m.plan m.place m.outcome m.swept log → slice_get m.plan.ops.items m.place ≡ Some op → Leaves op Failed more
    → new ≡ record m { stage = Sweeping; place = m.place + 1; swept = m.swept && false } → SoFar t new (log ++ more)
passes-failed t m new op log more planned h gone at leaves n =
    let removal = is-removal t m.plan m.place m.outcome op log planned h at in
    passes-over t m new op log more planned h gone at (removed-none op removal.0 more removal.1 leaves) n

-- while the size is asked for, no operation is at hand
pub asking-not : {A : Type 0} (u t : Tree) (m : Machine) (r : Reply) (log more : List Op) → m.stage ≡ Asking → SoFar t m log → IsOfOp r → Replies u (asked m) r more → A
asking-not u t m r log more e h i reply =
    let here = is-here t m Asking log e h in
    let part = here.2 in
    asks-no-op u m part.path (part.front ++ part.back) r more e (subst (λ k. slice_get m.plan.ops.items k ≡ Some (Append part.path (part.front ++ part.back))) (sym here.0) part.publishes) i reply

-- nothing is done of a rename that failed
pub named-none : (t : Tree) (m : Machine) (r : Reply) (log more : List Op) → m.stage ≡ Beginning → SoFar t m log → AtHand m Beginning r more → ((op : Op) → Leaves op r more → Leaves op Failed more) → more ≡ []
named-none t m r log more e h hand failed =
    let here = is-here t m Beginning log e h in
    let same : hand.op ≡ Rename new_journal_path journal_path = same-op (sym (subst (λ k. slice_get m.plan.ops.items k ≡ Some hand.op) here.0 hand.there) ∙ h.planned.named) in
    let k : Leaves (Rename new_journal_path journal_path) Failed more = subst (λ (o : Op). Leaves o Failed more) same (failed hand.op hand.leaves) in
    k

pub begins-not : (t : Tree) (m new : Machine) (log more : List Op) → m.stage ≡ Beginning → new ≡ record m { stage = Sweeping; place = sweep_from m.plan Fault; outcome = Fault } → SoFar t m log → AtHand m Beginning Failed more → SoFar t new (log ++ more)
begins-not t m new log more e n h hand = sweeps t m new Fault (log ++ more) n h.planned (gives-up-beginning t m log more e h (named-none t m Failed log more e h hand (λ op leaves. leaves)))

pub finishes-not : (t : Tree) (m new : Machine) (log more : List Op) → m.stage ≡ Finishing → new ≡ record m { stage = Sweeping; place = sweep_from m.plan (Unfinished Yes); outcome = Unfinished Yes } → SoFar t m log → AtHand m Finishing Failed more → SoFar t new (log ++ more)
finishes-not t m new log more e n h hand =
    let here = is-here t m Finishing log e h in
    sweeps t m new (Unfinished Yes) (log ++ more) n h.planned (breaks-behind t m.plan m.done hand.op log more h.planned here.0 here.1 hand.there here.2 hand.leaves)

pub undoes-not : (t : Tree) (m new : Machine) (log more : List Op) → m.stage ≡ Undoing → new ≡ record m { stage = Sweeping; place = sweep_from m.plan (Unfinished No); outcome = Unfinished No } → SoFar t m log → AtHand m Undoing Failed more → SoFar t new (log ++ more)
undoes-not t m new log more e n h hand =
    let here = is-here t m Undoing log e h in
    sweeps t m new (Unfinished No) (log ++ more) n h.planned (breaks-undoing t m.plan m.place hand.op log more h.planned hand.there here.2 hand.leaves)

-- what holds where it failed holds where there was no memory
pub as-failed : (m : Machine) (s : Stage) (more : List Op) → AtHand m s Memory more → AtHand m s Failed more
as-failed m s more hand = record { op = hand.op; there = hand.there; leaves = denied-failed hand.op more hand.leaves }

pub publishes-none : (t : Tree) (m new : Machine) (log more : List Op) → m.stage ≡ Publishing → new ≡ record m { stage = Undoing; place = 0; outcome = OutOfMemory } → SoFar t m log → AtHand m Publishing Memory more → SoFar t new (log ++ more)
publishes-none t m new log more e n h hand = publishes-not t m new OutOfMemory hand.op log more e n tt (none-done hand.op more hand.leaves) h hand.there
