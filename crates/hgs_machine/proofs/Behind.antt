-- Each file that stands behind a transaction is one refused call.
use Rattle.std.proofs.Common.{◌≡◌, ℕ, zero, suc, ◌+◌, ◌-◌, ◌≤◌, List, [], ◌∷◌, ◌++◌, length, drop, refl, sym, ◌∙◌, ap, subst, arith, append-nil, Bool, true, false, cond, max}
use Rattle.std.specs.Option.{ForSome}
use Rattle.std.specs.Prelude.{◌==◌, Option, Some, None, if◌then◌else◌, nat_lt, slice_get, unwrap_or}
use Rattle.hgs_files.specs.declared.op.Op.{Op}
use Rattle.hgs_files.specs.declared.op.Op.TheVariants.{Append, Cut, Rename, Remove, Create, Sync, Settle}
use Rattle.hgs_files.specs.Files.{GoesOn}
use Rattle.hgs_files.specs.Reads.{counted}
use Rattle.hgs_files.specs.Tree.{Tree, after_all, apply, same_path}
use Rattle.hgs_transaction.specs.declared.assemble.Plan.{Plan}
use Rattle.hgs_machine.specs.declared.ended.Ended.{Ended}
use Rattle.hgs_machine.specs.declared.ended.Published.TheVariants.{No, Yes, Unknown}
use Rattle.hgs_machine.specs.declared.ended.Short.{Short}
use Rattle.hgs_machine.specs.declared.ended.Short.TheVariants.{Done as AllDone, Fault, Unfinished, Memory as OutOfMemory}
use Rattle.hgs_machine.specs.declared.machine.Machine.{Machine}
use Rattle.hgs_machine.specs.declared.machine.Reply.{Reply}
use Rattle.hgs_machine.specs.declared.machine.Reply.TheVariants.{Done, Failed, Memory, Size, SizeFailed, SizeMemory}
use Rattle.hgs_machine.specs.declared.machine.Stage.{Stage}
use Rattle.hgs_machine.specs.declared.machine.Stage.TheVariants.{Preparing, Beginning, Working, Publishing, Asking, Finishing, Undoing, Sweeping, Removing}
use Rattle.hgs_machine.specs.Asked.{asked, asks_size, bytes_in, op_at, op_at_hand}
use Rattle.hgs_machine.specs.Carry.{tree_now}
use Rattle.hgs_machine.specs.Course.{between, removals_after}
use Rattle.hgs_machine.specs.Fed.{advanced, fed, fed_denied, fed_done, fed_failed, fed_no_size, fed_size, new_machine, passed, stray_sized, sweeping, undoing}
use Rattle.hgs_machine.specs.Planned.{IsPlanned}
use Rattle.hgs_machine.specs.Ran.{HasRun, IsRunOut, RoseBy, failures_in, not_yet, once_more, wants_in}
use Rattle.hgs_machine.specs.Refusals.{WereRefused, how_many_stand, paths_removed_after, refusals_at, refusals_of_short, standing}
use Rattle.hgs_machine.specs.SoFar.{HasNoSize, IsAt, Leaves, Replies, SoFar, SweepsTo, sweep_from}
use Rattle.hgs_machine.proofs.Ending.{past}
use Rattle.hgs_machine.proofs.Feeding.{at-removal, is-removal, removed-none, removed-whole}
use Rattle.hgs_machine.proofs.Going.{begins-so, goes-on}
use Rattle.hgs_machine.proofs.Leaving.{at-most-one}
use Rattle.hgs_machine.proofs.Lists.{between-more, between-none}
use Rattle.hgs_machine.proofs.Pieces.{none-done}
use Rattle.hgs_machine.proofs.Replied.{at-stage, fits-at, is-here, none-at-hand}
use Rattle.hgs_machine.proofs.Sized.{absent-at, fits-of, is-sweeping, of-no-size, size-does-nothing}
use Rattle.hgs_machine.proofs.Stages.{none-there, removals-left, removed-gone, take-all}
use Rattle.hgs_machine.proofs.Trees.{after_all-append}

-- ---- the files of removals that stand

abbrev stands_yet : Tree → Op → ℕ
stands_yet t (Remove path) = standing (t path)
stands_yet t op = 0

abbrev stand_yet : Tree → List Op → ℕ
stand_yet t [] = 0
stand_yet t (op ∷ ops) = stands_yet t op + stand_yet t ops

stand-append : (t : Tree) (xs ys : List Op) → stand_yet t (xs ++ ys) ≡ stand_yet t xs + stand_yet t ys
stand-append t [] ys = omega arith
stand-append t (x ∷ xs) ys = omega (arith, stand-append t xs ys)

removed-fewer : (b : Bool) (file : Option (List ℕ)) → standing (cond b None file) ≤ standing file
removed-fewer true file = omega arith
removed-fewer false file = omega arith

one-fewer : (t : Tree) (path : List ℕ) (op : Op) → stands_yet (apply (Remove path) t) op ≤ stands_yet t op
one-fewer t path (Remove other) = removed-fewer (same_path path other) (t other)
one-fewer t path (Append other bytes) = omega arith
one-fewer t path (Cut other len) = omega arith
one-fewer t path (Rename from to) = omega arith
one-fewer t path (Create other bytes) = omega arith
one-fewer t path (Sync other) = omega arith
one-fewer t path Settle = omega arith

-- a removal makes no file stand
fewer-stand : (t : Tree) (path : List ℕ) (ops : List Op) → stand_yet (apply (Remove path) t) ops ≤ stand_yet t ops
fewer-stand t path [] = omega arith
fewer-stand t path (op ∷ ops) = omega (arith, one-fewer t path op, fewer-stand t path ops)

-- of the removals up to this place
abbrev stand_to : Tree → Plan → ℕ → Short → ℕ
stand_to t p place outcome = stand_yet t (between (sweep_from p outcome) place p.ops.items)

abbrev stand_at : Tree → Plan → Stage → ℕ → Short → ℕ
stand_at t p Sweeping place outcome = stand_to t p place outcome
stand_at t p Removing place outcome = stand_to t p place outcome
stand_at t p _ place outcome = 0

-- what a machine has met with, at the least
abbrev met_at : Tree → Machine → Stage → ℕ
met_at t m s = refusals_at s m.outcome + stand_at t m.plan s m.place m.outcome

abbrev met : Tree → Machine → ℕ
met t m = met_at t m m.stage

-- no removal is passed where they begin
sweeps-none : (t : Tree) (p : Plan) (outcome : Short) → stand_to t p (sweep_from p outcome) outcome ≡ 0
sweeps-none t p outcome = ap (stand_yet t) (between-none (sweep_from p outcome) p.ops.items)

one-passed : (t : Tree) (p : Plan) (place : ℕ) (outcome : Short) (path : List ℕ) → sweep_from p outcome ≤ place → slice_get p.ops.items place ≡ Some (Remove path) → stand_to t p (place + 1) outcome ≡ stand_to t p place outcome + standing (t path)
one-passed t p place outcome path from at =
    let split = ap (stand_yet t) (between-more p.ops.items (sweep_from p outcome) place (Remove path) from at) in
    let both = stand-append t (between (sweep_from p outcome) place p.ops.items) (Remove path ∷ []) in
    omega (arith, split, both)

-- ---- a removal

-- the file of the removal at hand is the only one that can begin to count
passes : (t : Tree) (m : Machine) (gone : Bool) (log more : List Op) (path : List ℕ) (n : ℕ) → SweepsTo m.plan m.place m.outcome log → slice_get m.plan.ops.items m.place ≡ Some (Remove path)
    → stand_to (after_all (log ++ more) t) m.plan m.place m.outcome ≤ stand_to (after_all log t) m.plan m.place m.outcome → standing (after_all (log ++ more) t path) ≤ n
    → met (after_all (log ++ more) t) (passed gone m) ≤ refusals_of_short m.outcome + stand_to (after_all log t) m.plan m.place m.outcome + n
passes t m gone log more path n here at fewer one = omega (arith, one-passed (after_all (log ++ more) t) m.plan m.place m.outcome path here.from at, fewer, one)

-- nothing was done
rests : (t : Tree) (m : Machine) (gone : Bool) (log more : List Op) (path : List ℕ) (n : ℕ) → more ≡ [] → SweepsTo m.plan m.place m.outcome log → slice_get m.plan.ops.items m.place ≡ Some (Remove path) → standing (after_all log t path) ≤ n
    → met (after_all (log ++ more) t) (passed gone m) ≤ refusals_of_short m.outcome + stand_to (after_all log t) m.plan m.place m.outcome + n
rests t m gone log more path n none here at one =
    let tree : after_all (log ++ more) t ≡ after_all log t = ap (λ (l : List Op). after_all (log ++ l) t) none ∙ ap (λ (l : List Op). after_all l t) (append-nil log) in
    passes t m gone log more path n here at
    (subst (λ (u : Tree). stand_to u m.plan m.place m.outcome ≤ stand_to (after_all log t) m.plan m.place m.outcome) (sym tree) (omega arith))
    (subst (λ (u : Tree). standing (u path) ≤ n) (sym tree) one)

removes : (t : Tree) (m : Machine) (log more : List Op) (path : List ℕ) → more ≡ Remove path ∷ [] → SweepsTo m.plan m.place m.outcome log → slice_get m.plan.ops.items m.place ≡ Some (Remove path)
    → met (after_all (log ++ more) t) (passed true m) ≤ refusals_of_short m.outcome + stand_to (after_all log t) m.plan m.place m.outcome
removes t m log more path whole here at =
    let old = after_all log t in
    let tree : after_all (log ++ more) t ≡ apply (Remove path) old = ap (λ (l : List Op). after_all (log ++ l) t) whole ∙ after_all-append log (Remove path ∷ []) t in
    let fewer = subst (λ (u : Tree). stand_to u m.plan m.place m.outcome ≤ stand_to old m.plan m.place m.outcome) (sym tree) (fewer-stand old path (between (sweep_from m.plan m.outcome) m.place m.plan.ops.items)) in
    let none = subst (λ (u : Tree). standing (u path) ≤ 0) (sym tree) (subst (λ x. standing x ≤ 0) (sym (removed-gone old path)) (omega arith)) in
    omega (arith, passes t m true log more path 0 here at fewer none)

swept-done : (t : Tree) (m : Machine) (op : Op) (log more : List Op) → IsPlanned t m.plan → SweepsTo m.plan m.place m.outcome log → slice_get m.plan.ops.items m.place ≡ Some op → Leaves op Done more
    → met (after_all (log ++ more) t) (passed true m) ≤ refusals_of_short m.outcome + stand_to (after_all log t) m.plan m.place m.outcome
swept-done t m op log more planned here at leaves =
    let removal = is-removal t m.plan m.place m.outcome op log planned here at in
    removes t m log more removal.0 (removed-whole op removal.0 more removal.1 leaves ∙ ap (λ (o : Op). o ∷ []) removal.1) here (at-removal m op removal.0 at removal.1)

swept-not : (t : Tree) (m : Machine) (op : Op) (log more : List Op) → IsPlanned t m.plan → SweepsTo m.plan m.place m.outcome log → slice_get m.plan.ops.items m.place ≡ Some op → more ≡ []
    → met (after_all (log ++ more) t) (passed false m) ≤ refusals_of_short m.outcome + stand_to (after_all log t) m.plan m.place m.outcome + 1
swept-not t m op log more planned here at none =
    let removal = is-removal t m.plan m.place m.outcome op log planned here at in
    rests t m false log more removal.0 1 none here (at-removal m op removal.0 at removal.1) (at-most-one (after_all log t removal.0))

-- its size was had
sized : (t : Tree) (m : Machine) (size : Option ℕ) (log more : List Op) → m.stage ≡ Sweeping → SoFar t m log → Replies (after_all log t) (asked m) (Size size) more
    → met (after_all (log ++ more) t) (stray_sized size m) ≤ met_at (after_all log t) m Sweeping
sized t m None log more e h r =
    let old = after_all log t in
    let here = is-here t m Sweeping log e h in
    let at = fits-at m Sweeping (Size None) e (fits-of old (asked m) (Size None) more tt r) in
    let removal = is-removal t m.plan m.place m.outcome at.0 log h.planned here at.1 in
    let absent = absent-at old (op_at_hand m) (asks_size m) at.0 removal.0 more (subst (λ s. op_at m.plan s m.done m.place ≡ Some at.0) (sym e) at.1) removal.1 r in
    omega (arith, rests t m true log more removal.0 0 (size-does-nothing old m (Size None) more tt r) here (at-removal m at.0 removal.0 at.1 removal.1) (subst (λ x. standing x ≤ 0) (sym absent) (omega arith)))
sized t m (Some n) log more e h r =
    let old = after_all log t in
    let tree : after_all (log ++ more) t ≡ old = ap (λ (l : List Op). after_all (log ++ l) t) (size-does-nothing old m (Size (Some n)) more tt r) ∙ ap (λ (l : List Op). after_all l t) (append-nil log) in
    subst (λ (u : Tree). met_at u m Removing ≤ met_at old m Sweeping) (sym tree) (omega arith)

-- ---- a reply

prepares : (t : Tree) (b : Bool) (m : Machine) → met t (advanced (if b then Beginning else Preparing) m) ≤ refusals_of_short m.outcome
prepares t true m = omega arith
prepares t false m = omega arith

works : (t : Tree) (b : Bool) (m : Machine) → met t (advanced (if b then Publishing else Working) m) ≤ refusals_of_short m.outcome
works t true m = omega arith
works t false m = omega arith

finishes : (t : Tree) (b : Bool) (m : Machine) → met t (if b then advanced Finishing m else sweeping AllDone (advanced Finishing m)) ≤ refusals_of_short m.outcome
finishes t true m = omega arith
finishes t false m = omega (arith, sweeps-none t m.plan AllDone)

undoes : (t : Tree) (b : Bool) (m : Machine) → m.stage ≡ Undoing → met t (if b then record m { place = m.place + 1 } else sweeping m.outcome m) ≤ max 1 (refusals_of_short m.outcome)
undoes t true m e = subst (λ (s : Stage). refusals_at s m.outcome + stand_at t m.plan s (m.place + 1) m.outcome ≤ max 1 (refusals_of_short m.outcome)) (sym e) (omega arith)
undoes t false m e = omega (arith, sweeps-none t m.plan m.outcome)

by-done : (t : Tree) (m : Machine) (s : Stage) (log more : List Op) → m.stage ≡ s → SoFar t m log → Replies (after_all log t) (asked m) Done more → met (after_all (log ++ more) t) (fed_done s m) ≤ met_at (after_all log t) m s
by-done t m Preparing log more e h r = omega (arith, prepares (after_all (log ++ more) t) (m.done + 1 == m.plan.journal) m)
by-done t m Beginning log more e h r = omega (arith, works (after_all (log ++ more) t) (m.done + 1 == m.plan.publish) m)
by-done t m Working log more e h r = omega (arith, works (after_all (log ++ more) t) (m.done + 1 == m.plan.publish) m)
by-done t m Publishing log more e h r = omega arith
by-done t m Asking log more e h r = omega arith
by-done t m Finishing log more e h r = omega (arith, finishes (after_all (log ++ more) t) (nat_lt m.done m.plan.commit) m)
by-done t m Undoing log more e h r = omega (arith, undoes (after_all (log ++ more) t) (nat_lt (m.place + 1) (length m.plan.undo.items)) m e)
by-done t m Sweeping log more e h r = let at = at-stage (after_all log t) m Sweeping Done more e tt r in swept-done t m at.op log more h.planned (is-here t m Sweeping log e h) at.there at.leaves
by-done t m Removing log more e h r = let at = at-stage (after_all log t) m Removing Done more e tt r in swept-done t m at.op log more h.planned (is-here t m Removing log e h) at.there at.leaves

not-published : (t : Tree) (b : Bool) (m : Machine) → met t (if b then record m { stage = Asking; outcome = Fault } else undoing Fault m) ≤ 1
not-published t true m = omega arith
not-published t false m = omega arith

by-failed : (t : Tree) (m : Machine) (s : Stage) (log more : List Op) → m.stage ≡ s → SoFar t m log → Replies (after_all log t) (asked m) Failed more → met (after_all (log ++ more) t) (fed_failed s m) ≤ met_at (after_all log t) m s + 1
by-failed t m Preparing log more e h r = omega (arith, sweeps-none (after_all (log ++ more) t) m.plan Fault)
by-failed t m Beginning log more e h r = omega (arith, sweeps-none (after_all (log ++ more) t) m.plan Fault)
by-failed t m Working log more e h r = omega arith
by-failed t m Publishing log more e h r = omega (arith, not-published (after_all (log ++ more) t) (nat_lt 0 (bytes_in (slice_get m.plan.ops.items m.done))) m)
by-failed t m Asking log more e h r = omega arith
by-failed t m Finishing log more e h r = omega (arith, sweeps-none (after_all (log ++ more) t) m.plan (Unfinished Yes))
by-failed t m Undoing log more e h r = omega (arith, sweeps-none (after_all (log ++ more) t) m.plan (Unfinished No))
by-failed t m Sweeping log more e h r =
    let at = at-stage (after_all log t) m Sweeping Failed more e tt r in
    let here = is-here t m Sweeping log e h in
    let removal = is-removal t m.plan m.place m.outcome at.op log h.planned here at.there in
    swept-not t m at.op log more h.planned here at.there (removed-none at.op removal.0 more removal.1 at.leaves)
by-failed t m Removing log more e h r =
    let at = at-stage (after_all log t) m Removing Failed more e tt r in
    let here = is-here t m Removing log e h in
    let removal = is-removal t m.plan m.place m.outcome at.op log h.planned here at.there in
    swept-not t m at.op log more h.planned here at.there (removed-none at.op removal.0 more removal.1 at.leaves)

by-denied : (t : Tree) (m : Machine) (s : Stage) (log more : List Op) → m.stage ≡ s → SoFar t m log → Replies (after_all log t) (asked m) Memory more → met (after_all (log ++ more) t) (fed_denied s m) ≤ met_at (after_all log t) m s + 1
by-denied t m Preparing log more e h r = omega (arith, sweeps-none (after_all (log ++ more) t) m.plan OutOfMemory)
by-denied t m Beginning log more e h r = omega (arith, sweeps-none (after_all (log ++ more) t) m.plan OutOfMemory)
by-denied t m Working log more e h r = omega arith
by-denied t m Publishing log more e h r = omega arith
by-denied t m Asking log more e h r = omega arith
by-denied t m Finishing log more e h r = omega (arith, sweeps-none (after_all (log ++ more) t) m.plan (Unfinished Yes))
by-denied t m Undoing log more e h r = omega (arith, sweeps-none (after_all (log ++ more) t) m.plan (Unfinished No))
by-denied t m Sweeping log more e h r = let at = at-stage (after_all log t) m Sweeping Memory more e tt r in swept-not t m at.op log more h.planned (is-here t m Sweeping log e h) at.there (none-done at.op more at.leaves)
by-denied t m Removing log more e h r = let at = at-stage (after_all log t) m Removing Memory more e tt r in swept-not t m at.op log more h.planned (is-here t m Removing log e h) at.there (none-done at.op more at.leaves)

is-short : (t : Tree) (b : Bool) (m : Machine) → met t (if b then undoing m.outcome m else advanced Finishing m) ≤ max 1 (refusals_of_short m.outcome)
is-short t true m = omega arith
is-short t false m = omega arith

stray : (t : Tree) (m : Machine) (size : Option ℕ) (log more : List Op) → (m.stage ≡ Asking → ⊥) → SoFar t m log → Replies (after_all log t) (asked m) (Size size) more → met (after_all (log ++ more) t) (stray_sized size m) ≤ met (after_all log t) m
stray t m size log more n h r =
    let e = is-sweeping m (Size size) tt (fits-of (after_all log t) (asked m) (Size size) more tt r) n in
    subst (λ (s : Stage). met (after_all (log ++ more) t) (stray_sized size m) ≤ met_at (after_all log t) m s) (sym e) (sized t m size log more e h r)

by-size : (t : Tree) (m : Machine) (s : Stage) (size : Option ℕ) (log more : List Op) → m.stage ≡ s → SoFar t m log → Replies (after_all log t) (asked m) (Size size) more → met (after_all (log ++ more) t) (fed_size s size m) ≤ met (after_all log t) m
by-size t m Asking size log more e h r =
    let short = nat_lt (unwrap_or size 0 - m.plan.before) (bytes_in (slice_get m.plan.ops.items m.done)) in
    subst (λ (s : Stage). met (after_all (log ++ more) t) (if short then undoing m.outcome m else advanced Finishing m) ≤ met_at (after_all log t) m s) (sym e) (omega (arith, is-short (after_all (log ++ more) t) short m))
by-size t m Preparing size log more e h r = stray t m size log more (λ k. let no : ⊥ = cc in no) h r
by-size t m Beginning size log more e h r = stray t m size log more (λ k. let no : ⊥ = cc in no) h r
by-size t m Working size log more e h r = stray t m size log more (λ k. let no : ⊥ = cc in no) h r
by-size t m Publishing size log more e h r = stray t m size log more (λ k. let no : ⊥ = cc in no) h r
by-size t m Finishing size log more e h r = stray t m size log more (λ k. let no : ⊥ = cc in no) h r
by-size t m Undoing size log more e h r = stray t m size log more (λ k. let no : ⊥ = cc in no) h r
by-size t m Sweeping size log more e h r = stray t m size log more (λ k. let no : ⊥ = cc in no) h r
by-size t m Removing size log more e h r = stray t m size log more (λ k. let no : ⊥ = cc in no) h r

stray-not : (t : Tree) (m : Machine) (reply : Reply) (log more : List Op) → HasNoSize reply → (m.stage ≡ Asking → ⊥) → SoFar t m log → Replies (after_all log t) (asked m) reply more → met (after_all (log ++ more) t) (passed false m) ≤ met (after_all log t) m + 1
stray-not t m reply log more i n h r =
    let old = after_all log t in
    let of = of-no-size reply i in
    let fits = fits-of old (asked m) reply more of r in
    let e = is-sweeping m reply of fits n in
    let at = fits-at m Sweeping reply e fits in
    subst (λ (s : Stage). met (after_all (log ++ more) t) (passed false m) ≤ met_at old m s + 1) (sym e) (swept-not t m at.0 log more h.planned (is-here t m Sweeping log e h) at.1 (size-does-nothing old m reply more of r))

by-no-size : (t : Tree) (m : Machine) (s : Stage) (reply : Reply) (log more : List Op) → HasNoSize reply → m.stage ≡ s → SoFar t m log → Replies (after_all log t) (asked m) reply more → met (after_all (log ++ more) t) (fed_no_size s m) ≤ met (after_all log t) m + 1
by-no-size t m Asking reply log more i e h r =
    subst (λ (s : Stage). met (after_all (log ++ more) t) (sweeping (Unfinished Unknown) m) ≤ met_at (after_all log t) m s + 1) (sym e) (omega (arith, sweeps-none (after_all (log ++ more) t) m.plan (Unfinished Unknown)))
by-no-size t m Preparing reply log more i e h r = stray-not t m reply log more i (λ k. let no : ⊥ = cc in no) h r
by-no-size t m Beginning reply log more i e h r = stray-not t m reply log more i (λ k. let no : ⊥ = cc in no) h r
by-no-size t m Working reply log more i e h r = stray-not t m reply log more i (λ k. let no : ⊥ = cc in no) h r
by-no-size t m Publishing reply log more i e h r = stray-not t m reply log more i (λ k. let no : ⊥ = cc in no) h r
by-no-size t m Finishing reply log more i e h r = stray-not t m reply log more i (λ k. let no : ⊥ = cc in no) h r
by-no-size t m Undoing reply log more i e h r = stray-not t m reply log more i (λ k. let no : ⊥ = cc in no) h r
by-no-size t m Sweeping reply log more i e h r = stray-not t m reply log more i (λ k. let no : ⊥ = cc in no) h r
by-no-size t m Removing reply log more i e h r = stray-not t m reply log more i (λ k. let no : ⊥ = cc in no) h r

by-reply : (t : Tree) (m : Machine) (reply : Reply) (log more : List Op) → SoFar t m log → Replies (after_all log t) (asked m) reply more → met (after_all (log ++ more) t) (fed m reply) ≤ met (after_all log t) m + (failures_in reply + wants_in reply)
by-reply t m Done log more h r = omega (arith, by-done t m m.stage log more refl h r)
by-reply t m Failed log more h r = by-failed t m m.stage log more refl h r
by-reply t m Memory log more h r = by-denied t m m.stage log more refl h r
by-reply t m (Size size) log more h r = omega (arith, by-size t m m.stage size log more refl h r)
by-reply t m SizeFailed log more h r = by-no-size t m m.stage SizeFailed log more tt refl h r
by-reply t m SizeMemory log more h r = by-no-size t m m.stage SizeMemory log more tt refl h r

-- ---- the whole run

runs : (t : Tree) (first m : Machine) (failed wanting : ℕ) (log : List Op) → SoFar t first [] → met t first ≤ 0 → HasRun t first m failed wanting log → SoFar t m log × (met (after_all log t) m ≤ failed + wanting)
runs t first _ _ _ _ so_far none not_yet = (so_far, omega (arith, none))
runs t first _ _ _ _ so_far none (once_more m failed wanting log more reply run replies) =
    let before = runs t first m failed wanting log so_far none run in
    (goes-on t m reply log more before.0 replies, omega (arith, by-reply t m reply log more before.0 replies, before.1))

as-paths : (t : Tree) (outcome : Short) → stand_yet t (removals_after outcome) ≡ how_many_stand (paths_removed_after outcome) t
as-paths t AllDone = refl
as-paths t Fault = refl
as-paths t OutOfMemory = refl
as-paths t (Unfinished published) = refl

-- every removal is passed
passed-all : (t u : Tree) (p : Plan) (place : ℕ) (outcome : Short) → IsPlanned t p → slice_get p.ops.items place ≡ None → stand_to u p place outcome ≡ how_many_stand (paths_removed_after outcome) u
passed-all t u p place outcome planned none =
    ap (λ (l : List Op). stand_yet u (drop (sweep_from p outcome) l)) (take-all p.ops.items place (none-there p.ops.items place none)) ∙ ap (stand_yet u) (removals-left t p outcome planned) ∙ as-paths u outcome

ends-at : (t : Tree) (p : Plan) (s : Stage) (done place : ℕ) (outcome : Short) (log : List Op) → IsPlanned t p → op_at p s done place ≡ None → IsAt t p s done place outcome log
    → refusals_of_short outcome + how_many_stand (paths_removed_after outcome) (after_all log t) ≤ refusals_at s outcome + stand_at (after_all log t) p s place outcome
ends-at t p Preparing done place outcome log h none here = past t p done h (let a = h.journal in let b = h.publish in let c = here.0 in omega arith) none
ends-at t p Beginning done place outcome log h none here = past t p done h (let a = h.journal in let b = h.publish in let c = here.0 in omega arith) none
ends-at t p Working done place outcome log h none here = past t p done h (let b = h.publish in let c = here.1 in omega arith) none
ends-at t p Publishing done place outcome log h none here = past t p done h (let b = h.publish in let c = here.0 in omega arith) none
ends-at t p Asking done place outcome log h none here = past t p done h (let b = h.publish in let c = here.0 in omega arith) none
ends-at t p Finishing done place outcome log h none here = past t p done h here.1 none
ends-at t p Undoing done place outcome log h none here = let all = none-there p.undo.items place none in let within = here.0 in absurd (omega arith)
ends-at t p Sweeping done place outcome log h none here = omega (arith, passed-all t (after_all log t) p place outcome h none)
ends-at t p Removing done place outcome log h none here = omega (arith, passed-all t (after_all log t) p place outcome h none)

rose-so : (f g n : ℕ) → RoseBy f g n → counted f n ≤ g
rose-so f g zero h = omega (arith, h)
rose-so f g (suc n) h = omega (arith, h.0)

ran-refused : (t : Tree) (plan : Plan) (ended : Ended) (f g d e : ℕ) (log : List Op) → IsPlanned t plan → IsRunOut t plan ended f g d e log
    → WereRefused (refusals_of_short ended.outcome + how_many_stand (paths_removed_after ended.outcome) (after_all log t)) f g d e
ran-refused t plan ended f g d e log planned h =
    let m = h.last in
    let come = h.come in
    let run = runs t (new_machine plan) m come.failed come.wanting log (begins-so t plan planned) (omega arith) come.run in
    let so_far = run.0 in
    let all = ends-at t m.plan m.stage m.done m.place m.outcome log so_far.planned (none-at-hand m h.no_more) so_far.here in
    subst (λ (x : Ended). WereRefused (refusals_of_short x.outcome + how_many_stand (paths_removed_after x.outcome) (after_all log t)) f g d e) (sym h.is_ended)
    (record { failed = come.failed; wanting = come.wanting; all = omega (arith, all, run.1); faults = rose-so f g come.failed come.faults; denied = rose-so d e come.wanting come.denied })

-- A plan was carried out by its machine: each file that is left over is one refused call.
pub left-behind : (before after : Option (List Op)) (start : Tree) (plan : Plan) (ended : Ended) (f g d e : ℕ) → ForSome before (λ log. IsPlanned (after_all log start) plan) → GoesOn before after (IsRunOut (tree_now before start) plan ended f g d e)
    → GoesOn before after (λ done. WereRefused (refusals_of_short ended.outcome + how_many_stand (paths_removed_after ended.outcome) (after_all done (tree_now before start))) f g d e)
left-behind None after start plan ended f g d e planned h = h
left-behind (Some log) after start plan ended f g d e planned h = (h.0, h.1, ran-refused (after_all log start) plan ended f g d e h.0 (planned log refl) h.2)
