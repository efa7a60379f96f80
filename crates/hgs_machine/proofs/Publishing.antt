-- Where the publishing operation failed.
use Rattle.std.proofs.Common.{◌≡◌, ℕ, ◌+◌, ◌-◌, ◌<◌, ◌≤◌, List, [], ◌∷◌, ◌++◌, length, take, refl, sym, ◌∙◌, ap, subst, arith, append-nil, length-append}
use Rattle.std.specs.Prelude.{Option, Some, None, slice_get, unwrap_or}
use Rattle.hgs_files.specs.declared.op.Op.{Op}
use Rattle.hgs_files.specs.declared.op.Op.TheVariants.{Append, Cut, Rename, Remove, Create, Sync, Settle}
use Rattle.hgs_files.specs.Log.{IsDone, append_of_rest}
use Rattle.hgs_files.specs.Reads.{IsSizeOf}
use Rattle.hgs_files.specs.Tree.{Tree, after_all, bytes_at}
use Rattle.hgs_machine.specs.declared.ended.Published.TheVariants.{Unknown}
use Rattle.hgs_machine.specs.declared.ended.Short.TheVariants.{Fault, Unfinished}
use Rattle.hgs_machine.specs.declared.machine.Machine.{Machine}
use Rattle.hgs_machine.specs.declared.machine.Reply.{Reply}
use Rattle.hgs_machine.specs.declared.machine.Reply.TheVariants.{Done, Failed, Memory, Size, SizeFailed, SizeMemory}
use Rattle.hgs_machine.specs.declared.machine.Stage.TheVariants.{Publishing, Asking, Finishing, Undoing, Sweeping}
use Rattle.hgs_machine.specs.Asked.{Sizing, asked, bytes_in}
use Rattle.hgs_machine.specs.Course.{HasBegun, through_publishing, unsure}
use Rattle.hgs_machine.specs.Planned.{Publishes}
use Rattle.hgs_machine.specs.SoFar.{FinishesTo, HasNoSize, Leaves, Replies, SoFar, sweep_from}
use Rattle.hgs_machine.proofs.Feeding.{before-or-at, publishes-not, sweeps, undoes}
use Rattle.hgs_machine.proofs.Replied.{AtHand, asks-size, either, is-here}
use Rattle.hgs_machine.proofs.Stages.{finishes-first, left-at-publish, works-in-part}
use Rattle.hgs_machine.proofs.Trees.{after-working, after_all-append, in-part}

same_op : {a b : Op} → Some a ≡ Some b → a ≡ b
same_op e = cc

-- the append stands in part
append-fails : (t : Tree) (m new : Machine) (path bytes : List ℕ) (log more left : List Op) → m.stage ≡ Publishing → (0 < bytes_in (slice_get m.plan.ops.items m.done) → new ≡ record m { stage = Asking; outcome = Fault }) → SoFar t m log
    → slice_get m.plan.ops.items m.done ≡ Some (Append path bytes) → 0 < length bytes → length (bytes_at (after_all (take m.plan.publish m.plan.ops.items) t) path) ≡ m.plan.before → IsDone (Append path bytes ∷ []) more left → SoFar t new (log ++ more)
append-fails t m new path bytes log more left e asks h there some before d =
    let here = is-here t m Publishing log e h in
    let p = m.plan in
    let part = in-part path bytes more left (after_all log t) some d in
    let at = subst (λ k. slice_get p.ops.items k ≡ Some (Append path bytes)) here.0 there in
    let at-split = at ∙ ap (λ (b : List ℕ). Some (Append path b)) part.whole in
    let order = h.planned.journal in
    let begun = subst (HasBegun p (through_publishing p) (log ++ more)) (left-at-publish p left ∙ part.rest) (works-in-part p p.publish (Append path bytes) log more left (omega arith) (omega arith) at here.1 d) in
    let tree : after_all log t ≡ after_all (take p.publish p.ops.items) t = after-working p p.publish log t (omega arith) here.1 in
    let now : bytes_at (after_all (log ++ more) t) path ≡ bytes_at (after_all (take p.publish p.ops.items) t) path ++ part.front =
    ap (λ (u : Tree). bytes_at u path) (after_all-append log more t) ∙ part.now ∙ ap (λ (u : Tree). bytes_at u path ++ part.front) tree in
    let size : length (bytes_at (after_all (log ++ more) t) path) ≡ p.before + length part.front =
    ap (λ (b : List ℕ). length b) now ∙ length-append (bytes_at (after_all (take p.publish p.ops.items) t) path) part.front ∙ ap (λ n. n + length part.front) before in
    let many : 0 < bytes_in (slice_get p.ops.items m.done) = subst (λ o. 0 < bytes_in o) (sym there) some in
    subst (λ (x : Machine). SoFar t x (log ++ more)) (sym (asks many))
    (record { planned = h.planned; here = (here.0, tt, record { path = path; front = part.front; back = part.back; publishes = at-split; has_begun = begun; length_now = size }); gone = tt })

by-op : (t : Tree) (m new : Machine) (op : Op) (log more : List Op) → m.stage ≡ Publishing → (0 < bytes_in (slice_get m.plan.ops.items m.done) → new ≡ record m { stage = Asking; outcome = Fault })
    → (bytes_in (slice_get m.plan.ops.items m.done) ≡ 0 → new ≡ record m { stage = Undoing; place = 0; outcome = Fault }) → SoFar t m log
    → slice_get m.plan.ops.items m.done ≡ Some op → Publishes (after_all (take m.plan.publish m.plan.ops.items) t) m.plan.before op → Leaves op Failed more → SoFar t new (log ++ more)
by-op t m new (Append path bytes) log more e asks undoes h there p leaves = append-fails t m new path bytes log more leaves.0 e asks h there p.0 p.1 leaves.1
by-op t m new (Rename from to) log more e asks undo h there p leaves =
    publishes-not t m new Fault (Rename from to) log more e (undo (ap bytes_in there)) tt leaves h there
by-op t m new (Cut path len) log more e asks undo h there p leaves = elim p [ ]
by-op t m new (Remove path) log more e asks undo h there p leaves = elim p [ ]
by-op t m new (Create path bytes) log more e asks undo h there p leaves = elim p [ ]
by-op t m new (Sync path) log more e asks undo h there p leaves = elim p [ ]
by-op t m new Settle log more e asks undo h there p leaves = elim p [ ]

pub unpublished : (t : Tree) (m new : Machine) (log more : List Op) → m.stage ≡ Publishing → (0 < bytes_in (slice_get m.plan.ops.items m.done) → new ≡ record m { stage = Asking; outcome = Fault })
    → (bytes_in (slice_get m.plan.ops.items m.done) ≡ 0 → new ≡ record m { stage = Undoing; place = 0; outcome = Fault }) → SoFar t m log → AtHand m Publishing Failed more → SoFar t new (log ++ more)
unpublished t m new log more e asks undo h hand =
    let here = is-here t m Publishing log e h in
    let at = subst (λ k. slice_get m.plan.ops.items k ≡ Some hand.op) here.0 hand.there in
    let same : h.planned.publishing ≡ hand.op = same_op (sym h.planned.at_publish ∙ at) in
    by-op t m new hand.op log more e asks undo h hand.there (subst (Publishes (after_all (take m.plan.publish m.plan.ops.items) t) m.plan.before) same h.planned.publishes) hand.leaves

-- ---- its size

long : (file : Option (List ℕ)) (size : Option ℕ) → IsSizeOf file size → unwrap_or size 0 ≡ length (unwrap_or file [])
long file None h = sym (ap (λ (f : Option (List ℕ)). length (unwrap_or f [])) h)
long file (Some k) h = h.2 ∙ sym (ap (λ (f : Option (List ℕ)). length (unwrap_or f [])) h.1)

some-back : (path back : List ℕ) → 0 < length back → (op : Op) × (append_of_rest path back ≡ op ∷ [])
some-back path [] h = absurd (omega arith)
some-back path (b ∷ back) h = (Append path (b ∷ back), refl)

no-back : (path back : List ℕ) → length back ≡ 0 → append_of_rest path back ≡ []
no-back path [] h = refl
no-back path (b ∷ back) h = absurd (omega arith)

pub sized : (t : Tree) (m new : Machine) (size : Option ℕ) (log more : List Op) → m.stage ≡ Asking
    → (unwrap_or size 0 - m.plan.before < bytes_in (slice_get m.plan.ops.items m.done) → new ≡ record m { stage = Undoing; place = 0 })
    → (bytes_in (slice_get m.plan.ops.items m.done) ≤ unwrap_or size 0 - m.plan.before → new ≡ record m { stage = Finishing; done = m.done + 1 })
    → SoFar t m log → Replies (after_all log t) (asked m) (Size size) more → SoFar t new (log ++ more)
sized t m new size log more e short whole h r =
    let here = is-here t m Asking log e h in
    let p = m.plan in
    let part = here.2 in
    let there = subst (λ k. slice_get p.ops.items k ≡ Some (Append part.path (part.front ++ part.back))) (sym here.0) part.publishes in
    let told = asks-size (after_all log t) m part.path (part.front ++ part.back) (Size size) more e there r in
    let same : log ++ more ≡ log = ap (λ (l : List Op). log ++ l) told.0 ∙ append-nil log in
    let long-now : unwrap_or size 0 ≡ p.before + length part.front = long (after_all log t part.path) size told.1 ∙ part.length_now in
    let many : bytes_in (slice_get p.ops.items m.done) ≡ length part.front + length part.back = ap bytes_in there ∙ length-append part.front part.back in
    let order = h.planned.publish in
    let at = here.0 in
    subst (SoFar t new) (sym same)
    (either (before-or-at 0 (length part.back))
    (λ some. let rest = some-back part.path part.back some in undoes t m new m.outcome log rest.0 [] (short (omega arith)) here.1 h.planned (subst (HasBegun p (through_publishing p) log) rest.1 part.has_begun))
    (λ none. subst (λ (x : Machine). SoFar t x log) (sym (whole (omega arith)))
    (record { planned = h.planned; here = (omega arith, omega arith, subst (λ k. FinishesTo p (k + 1) log) (sym at) (finishes-first p log (subst (HasBegun p (through_publishing p) log) (no-back part.path part.back (omega arith)) part.has_begun))); gone = tt })))

no-size : (u : Tree) (path : List ℕ) (r : Reply) (more : List Op) → HasNoSize r → Replies u (Sizing path) r more → more ≡ []
no-size u path SizeFailed more i h = h
no-size u path SizeMemory more i h = h
no-size u path Done more i h = elim i [ ]
no-size u path Failed more i h = elim i [ ]
no-size u path Memory more i h = elim i [ ]
no-size u path (Size size) more i h = elim i [ ]

pub unsized : (t : Tree) (m new : Machine) (r : Reply) (log more : List Op) → m.stage ≡ Asking → new ≡ record m { stage = Sweeping; place = sweep_from m.plan (Unfinished Unknown); outcome = Unfinished Unknown }
    → SoFar t m log → HasNoSize r → Replies (after_all log t) (asked m) r more → SoFar t new (log ++ more)
unsized t m new r log more e n h i reply =
    let here = is-here t m Asking log e h in
    let part = here.2 in
    let there = subst (λ k. slice_get m.plan.ops.items k ≡ Some (Append part.path (part.front ++ part.back))) (sym here.0) part.publishes in
    let none = no-size (after_all log t) part.path r more i (asks-size (after_all log t) m part.path (part.front ++ part.back) r more e there reply) in
    subst (SoFar t new) (sym (ap (λ (l : List Op). log ++ l) none ∙ append-nil log)) (sweeps t m new (Unfinished Unknown) log n h.planned (unsure part.path part.front part.back log part.publishes part.has_begun))
