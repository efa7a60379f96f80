-- What a machine becomes by a reply stands where the reply says.
use Rattle.std.proofs.Common.{◌≡◌, ℕ, ◌+◌, ◌-◌, ◌<◌, ◌≤◌, ◌==◌, List, [], ◌++◌, length, refl, sym, ◌∙◌, ap, subst, arith, Bool, true, false, if◌then◌else◌}
use Rattle.std.specs.Prelude.{◌&&◌, Option, Some, None, IsSome, slice_get, nat_lt, unwrap_or}
use Rattle.std.proofs.lemmas.Bool.Decides.{nat_tests}
use Rattle.hgs_files.specs.declared.op.Op.{Op}
use Rattle.hgs_files.specs.Tree.{Tree, after_all}
use Rattle.hgs_transaction.specs.declared.assemble.Plan.{Plan}
use Rattle.hgs_machine.specs.declared.ended.Short.{Short}
use Rattle.hgs_machine.specs.declared.ended.Short.TheVariants.{Done as AllDone, Fault, Unfinished, Memory as OutOfMemory}
use Rattle.hgs_machine.specs.declared.machine.Machine.{Machine}
use Rattle.hgs_machine.specs.declared.machine.Reply.{Reply}
use Rattle.hgs_machine.specs.declared.machine.Reply.TheVariants.{Done, Failed, Memory, Size, SizeFailed, SizeMemory}
use Rattle.hgs_machine.specs.declared.machine.Stage.{Stage}
use Rattle.hgs_machine.specs.declared.machine.Stage.TheVariants.{Preparing, Beginning, Working, Publishing, Asking, Finishing, Undoing, Sweeping, Removing}
use Rattle.hgs_machine.specs.Asked.{asked, bytes_in}
use Rattle.hgs_machine.specs.Fed.{advanced, fed, fed_denied, fed_done, fed_failed, fed_no_size, fed_size, is_acknowledged, is_acknowledged_at, is_done_end, is_published, is_published_at, is_published_end, new_machine, passed, stray_sized, sweeping, undoing}
use Rattle.hgs_machine.specs.Planned.{IsPlanned}
use Rattle.hgs_machine.specs.SoFar.{Fits, HasNoSize, Replies, SoFar}
use Rattle.hgs_machine.proofs.Feeding.{as-failed, asking-not, begins, begins-not, finishes, finishes-not, gives-up, gives-up-beginning, nothing-of-it, passes-done, passes-failed, passes-over, prepares, publishes, publishes-none, sweeps, undoes-not, undoes-on, works, works-stopped}
use Rattle.hgs_machine.proofs.Pieces.{done-in-part, none-done}
use Rattle.hgs_machine.proofs.Publishing.{sized, unpublished, unsized}
use Rattle.hgs_machine.proofs.Replied.{at-stage, fits-at, is-gone, is-here}
use Rattle.hgs_machine.proofs.Sized.{fits-of, is-sweeping, of-no-size, size-does-nothing, stray-sized}

-- ---- done

finishes-by : (t : Tree) (m : Machine) (log more : List Op) (b : Bool) → nat_lt m.done m.plan.commit ≡ b → m.stage ≡ Finishing → SoFar t m log → Replies (after_all log t) (asked m) Done more
    → SoFar t (if b then advanced Finishing m else sweeping AllDone (advanced Finishing m)) (log ++ more)
finishes-by t m log more true is e h r =
    let less : m.done < m.plan.commit = grind (arith, nat_tests) in
    finishes t m (advanced Finishing m) log more e (λ k. refl) (λ k. absurd (omega arith)) h (at-stage (after_all log t) m Finishing Done more e tt r)
finishes-by t m log more false is e h r =
    let most : m.plan.commit ≤ m.done = grind (arith, nat_tests) in
    finishes t m (sweeping AllDone (advanced Finishing m)) log more e (λ k. absurd (omega arith)) (λ k. refl) h (at-stage (after_all log t) m Finishing Done more e tt r)

undoes-by : (t : Tree) (m : Machine) (log more : List Op) (b : Bool) → nat_lt (m.place + 1) (length m.plan.undo.items) ≡ b → m.stage ≡ Undoing → SoFar t m log → Replies (after_all log t) (asked m) Done more
    → SoFar t (if b then record m { place = m.place + 1 } else sweeping m.outcome m) (log ++ more)
undoes-by t m log more true is e h r =
    let less : m.place + 1 < length m.plan.undo.items = grind (arith, nat_tests) in
    undoes-on t m (record m { place = m.place + 1 }) log more e (λ k. refl) (λ k. absurd (omega arith)) h (at-stage (after_all log t) m Undoing Done more e tt r)
undoes-by t m log more false is e h r =
    let most : length m.plan.undo.items ≤ m.place + 1 = grind (arith, nat_tests) in
    undoes-on t m (sweeping m.outcome m) log more e (λ k. absurd (omega arith)) (λ k. refl) h (at-stage (after_all log t) m Undoing Done more e tt r)

done-by : (t : Tree) (m : Machine) (s : Stage) (log more : List Op) → m.stage ≡ s → SoFar t m log → Replies (after_all log t) (asked m) Done more → SoFar t (fed_done s m) (log ++ more)
done-by t m Preparing log more e h r = prepares t m (fed_done Preparing m) (if m.done + 1 == m.plan.journal then Beginning else Preparing) log more e refl refl h (at-stage (after_all log t) m Preparing Done more e tt r)
done-by t m Beginning log more e h r = begins t m (fed_done Beginning m) (if m.done + 1 == m.plan.publish then Publishing else Working) log more e refl refl h (at-stage (after_all log t) m Beginning Done more e tt r)
done-by t m Working log more e h r = works t m (fed_done Working m) (if m.done + 1 == m.plan.publish then Publishing else Working) log more e refl refl h (at-stage (after_all log t) m Working Done more e tt r)
done-by t m Publishing log more e h r = publishes t m (fed_done Publishing m) log more e refl h (at-stage (after_all log t) m Publishing Done more e tt r)
done-by t m Asking log more e h r = asking-not (after_all log t) t m Done log more e h tt r
done-by t m Finishing log more e h r = finishes-by t m log more (nat_lt m.done m.plan.commit) refl e h r
done-by t m Undoing log more e h r = undoes-by t m log more (nat_lt (m.place + 1) (length m.plan.undo.items)) refl e h r
done-by t m Sweeping log more e h r =
    let at = at-stage (after_all log t) m Sweeping Done more e tt r in
    passes-done t m (fed_done Sweeping m) at.op log more h.planned (is-here t m Sweeping log e h) (is-gone t m Sweeping log e h) at.there at.leaves refl
done-by t m Removing log more e h r =
    let at = at-stage (after_all log t) m Removing Done more e tt r in
    passes-done t m (fed_done Removing m) at.op log more h.planned (is-here t m Removing log e h) (is-gone t m Removing log e h) at.there at.leaves refl

pub goes-done : (m : Machine) (t : Tree) (log more : List Op) → SoFar t m log → Replies (after_all log t) (asked m) Done more → SoFar t (fed_done m.stage m) (log ++ more)
goes-done m t log more h r = done-by t m m.stage log more refl h r

-- ---- failed

unpublished-by : (t : Tree) (m : Machine) (log more : List Op) (b : Bool) → nat_lt 0 (bytes_in (slice_get m.plan.ops.items m.done)) ≡ b → m.stage ≡ Publishing → SoFar t m log → Replies (after_all log t) (asked m) Failed more
    → SoFar t (if b then record m { stage = Asking; outcome = Fault } else undoing Fault m) (log ++ more)
unpublished-by t m log more true is e h r =
    let some : 0 < bytes_in (slice_get m.plan.ops.items m.done) = grind (arith, nat_tests) in
    unpublished t m (record m { stage = Asking; outcome = Fault }) log more e (λ k. refl) (λ k. absurd (omega arith)) h (at-stage (after_all log t) m Publishing Failed more e tt r)
unpublished-by t m log more false is e h r =
    let none : bytes_in (slice_get m.plan.ops.items m.done) ≡ 0 = grind (arith, nat_tests) in
    unpublished t m (undoing Fault m) log more e (λ k. absurd (omega arith)) (λ k. refl) h (at-stage (after_all log t) m Publishing Failed more e tt r)

failed-by : (t : Tree) (m : Machine) (s : Stage) (log more : List Op) → m.stage ≡ s → SoFar t m log → Replies (after_all log t) (asked m) Failed more → SoFar t (fed_failed s m) (log ++ more)
failed-by t m Preparing log more e h r =
    sweeps t m (fed_failed Preparing m) Fault (log ++ more) refl h.planned (gives-up t m Failed log more e h (λ op. done-in-part op more) (at-stage (after_all log t) m Preparing Failed more e tt r))
failed-by t m Beginning log more e h r = begins-not t m (fed_failed Beginning m) log more e refl h (at-stage (after_all log t) m Beginning Failed more e tt r)
failed-by t m Working log more e h r = works-stopped t m (fed_failed Working m) Fault Failed log more e refl tt (λ op. done-in-part op more) h (at-stage (after_all log t) m Working Failed more e tt r)
failed-by t m Publishing log more e h r = unpublished-by t m log more (nat_lt 0 (bytes_in (slice_get m.plan.ops.items m.done))) refl e h r
failed-by t m Asking log more e h r = asking-not (after_all log t) t m Failed log more e h tt r
failed-by t m Finishing log more e h r = finishes-not t m (fed_failed Finishing m) log more e refl h (at-stage (after_all log t) m Finishing Failed more e tt r)
failed-by t m Undoing log more e h r = undoes-not t m (fed_failed Undoing m) log more e refl h (at-stage (after_all log t) m Undoing Failed more e tt r)
failed-by t m Sweeping log more e h r =
    let at = at-stage (after_all log t) m Sweeping Failed more e tt r in
    passes-failed t m (fed_failed Sweeping m) at.op log more h.planned (is-here t m Sweeping log e h) (is-gone t m Sweeping log e h) at.there at.leaves refl
failed-by t m Removing log more e h r =
    let at = at-stage (after_all log t) m Removing Failed more e tt r in
    passes-failed t m (fed_failed Removing m) at.op log more h.planned (is-here t m Removing log e h) (is-gone t m Removing log e h) at.there at.leaves refl

pub goes-failed : (m : Machine) (t : Tree) (log more : List Op) → SoFar t m log → Replies (after_all log t) (asked m) Failed more → SoFar t (fed_failed m.stage m) (log ++ more)
goes-failed m t log more h r = failed-by t m m.stage log more refl h r

-- ---- no memory

denied-by : (t : Tree) (m : Machine) (s : Stage) (log more : List Op) → m.stage ≡ s → SoFar t m log → Replies (after_all log t) (asked m) Memory more → SoFar t (fed_denied s m) (log ++ more)
denied-by t m Preparing log more e h r =
    sweeps t m (fed_denied Preparing m) OutOfMemory (log ++ more) refl h.planned (gives-up t m Memory log more e h (λ op. nothing-of-it op more) (at-stage (after_all log t) m Preparing Memory more e tt r))
denied-by t m Beginning log more e h r =
    let at = at-stage (after_all log t) m Beginning Memory more e tt r in
    sweeps t m (fed_denied Beginning m) OutOfMemory (log ++ more) refl h.planned (gives-up-beginning t m log more e h (none-done at.op more at.leaves))
denied-by t m Working log more e h r = works-stopped t m (fed_denied Working m) OutOfMemory Memory log more e refl tt (λ op. nothing-of-it op more) h (at-stage (after_all log t) m Working Memory more e tt r)
denied-by t m Publishing log more e h r = publishes-none t m (fed_denied Publishing m) log more e refl h (at-stage (after_all log t) m Publishing Memory more e tt r)
denied-by t m Asking log more e h r = asking-not (after_all log t) t m Memory log more e h tt r
denied-by t m Finishing log more e h r = finishes-not t m (fed_denied Finishing m) log more e refl h (as-failed m Finishing more (at-stage (after_all log t) m Finishing Memory more e tt r))
denied-by t m Undoing log more e h r = undoes-not t m (fed_denied Undoing m) log more e refl h (as-failed m Undoing more (at-stage (after_all log t) m Undoing Memory more e tt r))
denied-by t m Sweeping log more e h r =
    let at = at-stage (after_all log t) m Sweeping Memory more e tt r in
    passes-over t m (fed_denied Sweeping m) at.op log more h.planned (is-here t m Sweeping log e h) (is-gone t m Sweeping log e h) at.there (none-done at.op more at.leaves) refl
denied-by t m Removing log more e h r =
    let at = at-stage (after_all log t) m Removing Memory more e tt r in
    passes-over t m (fed_denied Removing m) at.op log more h.planned (is-here t m Removing log e h) (is-gone t m Removing log e h) at.there (none-done at.op more at.leaves) refl

pub goes-denied : (m : Machine) (t : Tree) (log more : List Op) → SoFar t m log → Replies (after_all log t) (asked m) Memory more → SoFar t (fed_denied m.stage m) (log ++ more)
goes-denied m t log more h r = denied-by t m m.stage log more refl h r

-- ---- a size

asked-size-by : (t : Tree) (m : Machine) (size : Option ℕ) (log more : List Op) (b : Bool) → nat_lt (unwrap_or size 0 - m.plan.before) (bytes_in (slice_get m.plan.ops.items m.done)) ≡ b → m.stage ≡ Asking → SoFar t m log → Replies (after_all log t) (asked m) (Size size) more
    → SoFar t (if b then undoing m.outcome m else advanced Finishing m) (log ++ more)
asked-size-by t m size log more true is e h r =
    let less : unwrap_or size 0 - m.plan.before < bytes_in (slice_get m.plan.ops.items m.done) = grind (arith, nat_tests) in
    sized t m (undoing m.outcome m) size log more e (λ k. refl) (λ k. absurd (omega arith)) h r
asked-size-by t m size log more false is e h r =
    let most : bytes_in (slice_get m.plan.ops.items m.done) ≤ unwrap_or size 0 - m.plan.before = grind (arith, nat_tests) in
    sized t m (advanced Finishing m) size log more e (λ k. absurd (omega arith)) (λ k. refl) h r

absent-is : (size : Option ℕ) (m : Machine) → m.stage ≡ Sweeping → size ≡ None → stray_sized size m ≡ record m { stage = Sweeping; place = m.place + 1; swept = m.swept && true }
absent-is None m e h = refl
absent-is (Some n) m e h = absurd (let no : ⊥ = cc in no)

stands-is : (size : Option ℕ) (m : Machine) → IsSome size → stray_sized size m ≡ record m { stage = Removing }
stands-is (Some n) m h = refl
stands-is None m h = absurd (let no : ⊥ = cc in no)

and-true : (b : Bool) → (b && true) ≡ b
and-true true = refl
and-true false = refl

stray-by : (t : Tree) (m : Machine) (size : Option ℕ) (log more : List Op) → (m.stage ≡ Asking → ⊥) → SoFar t m log → Replies (after_all log t) (asked m) (Size size) more → SoFar t (stray_sized size m) (log ++ more)
stray-by t m size log more n h r =
    let fits = fits-of (after_all log t) (asked m) (Size size) more tt r in
    let e = is-sweeping m (Size size) tt fits n in
    let at = fits-at m Sweeping (Size size) e fits in
    stray-sized t m (stray_sized size m) size at.0 log more e at.1 (stands-is size m) (λ k. absent-is size m e k ∙ ap (λ b. record m { stage = Sweeping; place = m.place + 1; swept = b }) (and-true m.swept)) h r

sized-by : (t : Tree) (m : Machine) (s : Stage) (size : Option ℕ) (log more : List Op) → m.stage ≡ s → SoFar t m log → Replies (after_all log t) (asked m) (Size size) more → SoFar t (fed_size s size m) (log ++ more)
sized-by t m Asking size log more e h r = asked-size-by t m size log more (nat_lt (unwrap_or size 0 - m.plan.before) (bytes_in (slice_get m.plan.ops.items m.done))) refl e h r
sized-by t m Preparing size log more e h r = stray-by t m size log more (λ k. let no : ⊥ = cc in no) h r
sized-by t m Beginning size log more e h r = stray-by t m size log more (λ k. let no : ⊥ = cc in no) h r
sized-by t m Working size log more e h r = stray-by t m size log more (λ k. let no : ⊥ = cc in no) h r
sized-by t m Publishing size log more e h r = stray-by t m size log more (λ k. let no : ⊥ = cc in no) h r
sized-by t m Finishing size log more e h r = stray-by t m size log more (λ k. let no : ⊥ = cc in no) h r
sized-by t m Undoing size log more e h r = stray-by t m size log more (λ k. let no : ⊥ = cc in no) h r
sized-by t m Sweeping size log more e h r = stray-by t m size log more (λ k. let no : ⊥ = cc in no) h r
sized-by t m Removing size log more e h r = stray-by t m size log more (λ k. let no : ⊥ = cc in no) h r

pub goes-sized : (m : Machine) (size : Option ℕ) (t : Tree) (log more : List Op) → SoFar t m log → Replies (after_all log t) (asked m) (Size size) more → SoFar t (fed_size m.stage size m) (log ++ more)
goes-sized m size t log more h r = sized-by t m m.stage size log more refl h r

-- ---- no size

stray-unsized : (t : Tree) (m : Machine) (reply : Reply) (log more : List Op) → HasNoSize reply → (m.stage ≡ Asking → ⊥) → SoFar t m log → Replies (after_all log t) (asked m) reply more → SoFar t (passed false m) (log ++ more)
stray-unsized t m reply log more i n h r =
    let of = of-no-size reply i in
    let fits = fits-of (after_all log t) (asked m) reply more of r in
    let e = is-sweeping m reply of fits n in
    let at = fits-at m Sweeping reply e fits in
    passes-over t m (passed false m) at.0 log more h.planned (is-here t m Sweeping log e h) (is-gone t m Sweeping log e h) at.1 (size-does-nothing (after_all log t) m reply more of r) refl

unsized-by : (t : Tree) (m : Machine) (s : Stage) (reply : Reply) (log more : List Op) → HasNoSize reply → m.stage ≡ s → SoFar t m log → Replies (after_all log t) (asked m) reply more → SoFar t (fed_no_size s m) (log ++ more)
unsized-by t m Asking reply log more i e h r = unsized t m (fed_no_size Asking m) reply log more e refl h i r
unsized-by t m Preparing reply log more i e h r = stray-unsized t m reply log more i (λ k. let no : ⊥ = cc in no) h r
unsized-by t m Beginning reply log more i e h r = stray-unsized t m reply log more i (λ k. let no : ⊥ = cc in no) h r
unsized-by t m Working reply log more i e h r = stray-unsized t m reply log more i (λ k. let no : ⊥ = cc in no) h r
unsized-by t m Publishing reply log more i e h r = stray-unsized t m reply log more i (λ k. let no : ⊥ = cc in no) h r
unsized-by t m Finishing reply log more i e h r = stray-unsized t m reply log more i (λ k. let no : ⊥ = cc in no) h r
unsized-by t m Undoing reply log more i e h r = stray-unsized t m reply log more i (λ k. let no : ⊥ = cc in no) h r
unsized-by t m Sweeping reply log more i e h r = stray-unsized t m reply log more i (λ k. let no : ⊥ = cc in no) h r
unsized-by t m Removing reply log more i e h r = stray-unsized t m reply log more i (λ k. let no : ⊥ = cc in no) h r

-- ---- any reply

pub goes-on : (t : Tree) (m : Machine) (reply : Reply) (log more : List Op) → SoFar t m log → Replies (after_all log t) (asked m) reply more → SoFar t (fed m reply) (log ++ more)
goes-on t m Done log more h r = goes-done m t log more h r
goes-on t m Failed log more h r = goes-failed m t log more h r
goes-on t m Memory log more h r = goes-denied m t log more h r
goes-on t m (Size size) log more h r = goes-sized m size t log more h r
goes-on t m SizeFailed log more h r = unsized-by t m m.stage SizeFailed log more tt refl h r
goes-on t m SizeMemory log more h r = unsized-by t m m.stage SizeMemory log more tt refl h r

-- ---- the beginning

pub begins-so : (t : Tree) (plan : Plan) → IsPlanned t plan → SoFar t (new_machine plan) []
begins-so t plan h = record { planned = h; here = (h.begins, refl); gone = tt }

-- ---- what is published stays so

done-published : (m : Machine) (s : Stage) → is_published_at s m.outcome ≡ true → is_published (fed_done s m) ≡ true
done-published m Finishing h = by (nat_lt m.done m.plan.commit)
  where
    by : (b : Bool) → is_published (if b then advanced Finishing m else sweeping AllDone (advanced Finishing m)) ≡ true
    by true = refl
    by false = refl
done-published m Sweeping h = h
done-published m Removing h = h
done-published m Preparing h = absurd (let no : ⊥ = cc in no)
done-published m Beginning h = absurd (let no : ⊥ = cc in no)
done-published m Working h = absurd (let no : ⊥ = cc in no)
done-published m Publishing h = absurd (let no : ⊥ = cc in no)
done-published m Asking h = absurd (let no : ⊥ = cc in no)
done-published m Undoing h = absurd (let no : ⊥ = cc in no)

failed-published : (m : Machine) (s : Stage) → is_published_at s m.outcome ≡ true → is_published (fed_failed s m) ≡ true
failed-published m Finishing h = refl
failed-published m Sweeping h = h
failed-published m Removing h = h
failed-published m Preparing h = absurd (let no : ⊥ = cc in no)
failed-published m Beginning h = absurd (let no : ⊥ = cc in no)
failed-published m Working h = absurd (let no : ⊥ = cc in no)
failed-published m Publishing h = absurd (let no : ⊥ = cc in no)
failed-published m Asking h = absurd (let no : ⊥ = cc in no)
failed-published m Undoing h = absurd (let no : ⊥ = cc in no)

pub published-done : (m : Machine) → is_published m ≡ true → is_published (fed_done m.stage m) ≡ true
published-done m h = done-published m m.stage h

pub published-failed : (m : Machine) → is_published m ≡ true → is_published (fed_failed m.stage m) ≡ true
published-failed m h = failed-published m m.stage h

sized-published : (m : Machine) (size : Option ℕ) → is_published_at Sweeping m.outcome ≡ true → is_published (stray_sized size m) ≡ true
sized-published m None h = h
sized-published m (Some n) h = h

not-asking : (m : Machine) → is_published m ≡ true → m.stage ≡ Asking → ⊥
not-asking m h e = let at : is_published_at Asking m.outcome ≡ true = subst (λ s. is_published_at s m.outcome ≡ true) e h in let no : ⊥ = cc in no

pub published-sized : (m : Machine) (size : Option ℕ) → Fits (asked m) (Size size) → is_published m ≡ true → is_published (fed_size m.stage size m) ≡ true
published-sized m size fits h =
    let e = is-sweeping m (Size size) tt fits (not-asking m h) in
    subst (λ s. is_published (fed_size s size m) ≡ true) (sym e) (sized-published m size (subst (λ s. is_published_at s m.outcome ≡ true) e h))

-- ---- what is acknowledged stays so

done-acknowledged : (m : Machine) (s : Stage) → is_acknowledged_at s m.outcome ≡ true → is_acknowledged (fed_done s m) ≡ true
done-acknowledged m Sweeping h = h
done-acknowledged m Removing h = h
done-acknowledged m Finishing h = absurd (let no : ⊥ = cc in no)
done-acknowledged m Preparing h = absurd (let no : ⊥ = cc in no)
done-acknowledged m Beginning h = absurd (let no : ⊥ = cc in no)
done-acknowledged m Working h = absurd (let no : ⊥ = cc in no)
done-acknowledged m Publishing h = absurd (let no : ⊥ = cc in no)
done-acknowledged m Asking h = absurd (let no : ⊥ = cc in no)
done-acknowledged m Undoing h = absurd (let no : ⊥ = cc in no)

failed-acknowledged : (m : Machine) (s : Stage) → is_acknowledged_at s m.outcome ≡ true → is_acknowledged (fed_failed s m) ≡ true
failed-acknowledged m Sweeping h = h
failed-acknowledged m Removing h = h
failed-acknowledged m Finishing h = absurd (let no : ⊥ = cc in no)
failed-acknowledged m Preparing h = absurd (let no : ⊥ = cc in no)
failed-acknowledged m Beginning h = absurd (let no : ⊥ = cc in no)
failed-acknowledged m Working h = absurd (let no : ⊥ = cc in no)
failed-acknowledged m Publishing h = absurd (let no : ⊥ = cc in no)
failed-acknowledged m Asking h = absurd (let no : ⊥ = cc in no)
failed-acknowledged m Undoing h = absurd (let no : ⊥ = cc in no)

pub acknowledged-done : (m : Machine) → is_acknowledged m ≡ true → is_acknowledged (fed_done m.stage m) ≡ true
acknowledged-done m h = done-acknowledged m m.stage h

pub acknowledged-failed : (m : Machine) → is_acknowledged m ≡ true → is_acknowledged (fed_failed m.stage m) ≡ true
acknowledged-failed m h = failed-acknowledged m m.stage h

-- a size acknowledges nothing, and takes nothing back
asked-size-keeps : (m : Machine) (size : Option ℕ) (b : Bool) → is_acknowledged (if b then undoing m.outcome m else advanced Finishing m) ≡ false
asked-size-keeps m size true = refl
asked-size-keeps m size false = refl

stray-keeps : (m : Machine) (size : Option ℕ) → is_acknowledged (stray_sized size m) ≡ is_acknowledged_at Sweeping m.outcome
stray-keeps m None = refl
stray-keeps m (Some n) = refl

size-keeps : (m : Machine) (s : Stage) (size : Option ℕ) → m.stage ≡ s → Fits (asked m) (Size size) → is_acknowledged (fed_size s size m) ≡ is_acknowledged m
size-keeps m Asking size e fits = asked-size-keeps m size (nat_lt (unwrap_or size 0 - m.plan.before) (bytes_in (slice_get m.plan.ops.items m.done))) ∙ sym (ap (λ s. is_acknowledged_at s m.outcome) e)
size-keeps m Sweeping size e fits = stray-keeps m size ∙ sym (ap (λ s. is_acknowledged_at s m.outcome) e)
size-keeps m Removing size e fits = stray-keeps m size ∙ sym (ap (λ s. is_acknowledged_at s m.outcome) e)
size-keeps m Preparing size e fits = absurd (let at = is-sweeping m (Size size) tt fits (λ k. let no : ⊥ = cc in no) in let no : ⊥ = cc in no)
size-keeps m Beginning size e fits = absurd (let at = is-sweeping m (Size size) tt fits (λ k. let no : ⊥ = cc in no) in let no : ⊥ = cc in no)
size-keeps m Working size e fits = absurd (let at = is-sweeping m (Size size) tt fits (λ k. let no : ⊥ = cc in no) in let no : ⊥ = cc in no)
size-keeps m Publishing size e fits = absurd (let at = is-sweeping m (Size size) tt fits (λ k. let no : ⊥ = cc in no) in let no : ⊥ = cc in no)
size-keeps m Finishing size e fits = absurd (let at = is-sweeping m (Size size) tt fits (λ k. let no : ⊥ = cc in no) in let no : ⊥ = cc in no)
size-keeps m Undoing size e fits = absurd (let at = is-sweeping m (Size size) tt fits (λ k. let no : ⊥ = cc in no) in let no : ⊥ = cc in no)

pub acknowledged-sized : (m : Machine) (size : Option ℕ) → Fits (asked m) (Size size) → is_acknowledged (fed_size m.stage size m) ≡ is_acknowledged m
acknowledged-sized m size fits = size-keeps m m.stage size refl fits

-- what is acknowledged is published
pub acknowledged-published : (m : Machine) → is_acknowledged m ≡ true → is_published m ≡ true
acknowledged-published m h = by m.stage m.outcome h
  where
    ends : (o : Short) → is_done_end o ≡ true → is_published_end o ≡ true
    ends AllDone h = refl
    ends Fault h = absurd (let no : ⊥ = cc in no)
    ends (Unfinished p) h = absurd (let no : ⊥ = cc in no)
    ends OutOfMemory h = absurd (let no : ⊥ = cc in no)

    by : (s : Stage) (o : Short) → is_acknowledged_at s o ≡ true → is_published_at s o ≡ true
    by Sweeping o h = ends o h
    by Removing o h = ends o h
    by Finishing o h = absurd (let no : ⊥ = cc in no)
    by Preparing o h = absurd (let no : ⊥ = cc in no)
    by Beginning o h = absurd (let no : ⊥ = cc in no)
    by Working o h = absurd (let no : ⊥ = cc in no)
    by Publishing o h = absurd (let no : ⊥ = cc in no)
    by Asking o h = absurd (let no : ⊥ = cc in no)
    by Undoing o h = absurd (let no : ⊥ = cc in no)
