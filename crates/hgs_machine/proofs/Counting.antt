-- How many calls were refused while a machine was run.
use Rattle.std.proofs.Common.{◌≡◌, ℕ, ◌+◌, ◌-◌, ◌≤◌, refl, sym, ap, inl, inr, subst, arith, Bool, true, false, ◌&&◌, List, max}
use Rattle.std.specs.Prelude.{Option, Some, None, is_some, if◌then◌else◌, nat_lt, length, slice_get, unwrap_or, ◌==◌}
use Rattle.hgs_files.specs.declared.op.Op.{Op}
use Rattle.hgs_files.specs.Files.{GoesOn}
use Rattle.hgs_files.specs.Reads.{Rises}
use Rattle.hgs_machine.specs.declared.ended.Ended.{Ended}
use Rattle.hgs_machine.specs.declared.ended.Short.{Short}
use Rattle.hgs_machine.specs.declared.ended.Short.TheVariants.{Done as AllDone, Fault}
use Rattle.hgs_machine.specs.declared.machine.Machine.{Machine}
use Rattle.hgs_machine.specs.declared.machine.Reply.{Reply}
use Rattle.hgs_machine.specs.declared.machine.Reply.TheVariants.{Done, Failed, Memory, Size, SizeFailed, SizeMemory}
use Rattle.hgs_machine.specs.declared.machine.Stage.{Stage}
use Rattle.hgs_machine.specs.declared.machine.Stage.TheVariants.{Preparing, Beginning, Working, Publishing, Asking, Finishing, Undoing, Sweeping, Removing}
use Rattle.hgs_machine.specs.Asked.{bytes_in}
use Rattle.hgs_machine.specs.Carry.{Counted}
use Rattle.hgs_machine.specs.Fed.{advanced, fed, fed_denied, fed_done, fed_failed, fed_no_size, fed_size, passed, stray_sized, sweeping, undoing}
use Rattle.hgs_machine.specs.Locks.{CausesLeft, NeverFall}
use Rattle.hgs_machine.specs.Refusals.{WereRefused, refusals_at, refusals_in, refusals_of_ended, refusals_of_call, refusals_of_left, refusals_of_lock, refusals_of_locks, refusals_of_short, refusals_so_far}
use Rattle.hgs_machine.specs.Theorems.RefusedLemmas.{both-refused, fewer-refused}
use Rattle.hgs_machine.specs.declared.locks.LockRefusal.{LockRefusal}
use Rattle.hgs_machine.specs.declared.locks.LockRefusal.TheVariants.{Held, Abandoned, Fault as LockFault, Memory as NoMemory}

-- ---- what a reply adds

begins : (b : Bool) (o : Short) → refusals_at (if b then Beginning else Preparing) o ≡ refusals_of_short o
begins true o = refl
begins false o = refl

works : (b : Bool) (o : Short) → refusals_at (if b then Publishing else Working) o ≡ refusals_of_short o
works true o = refl
works false o = refl

left-gone : (a : Bool) → refusals_of_left (a && true) ≡ refusals_of_left a
left-gone true = refl
left-gone false = refl

left-stays : (a : Bool) → refusals_of_left (a && false) ≤ refusals_of_left a + 1
left-stays true = omega arith
left-stays false = omega arith

finishes : (b : Bool) (m : Machine) → refusals_so_far (if b then advanced Finishing m else sweeping AllDone (advanced Finishing m)) ≤ refusals_of_short m.outcome + refusals_of_left m.swept
finishes true m = omega arith
finishes false m = omega arith

undoes : (b : Bool) (m : Machine) → m.stage ≡ Undoing → refusals_so_far (if b then record m { place = m.place + 1 } else sweeping m.outcome m) ≤ max 1 (refusals_of_short m.outcome) + refusals_of_left m.swept
undoes true m e = subst (λ (s : Stage). refusals_at s m.outcome + refusals_of_left m.swept ≤ max 1 (refusals_of_short m.outcome) + refusals_of_left m.swept) (sym e) (omega arith)
undoes false m e = omega arith

passes-gone : (m : Machine) → refusals_so_far (passed true m) ≤ refusals_of_short m.outcome + refusals_of_left m.swept
passes-gone m = omega (arith, left-gone m.swept)

passes-left : (m : Machine) → refusals_so_far (passed false m) ≤ refusals_of_short m.outcome + refusals_of_left m.swept + 1
passes-left m = omega (arith, left-stays m.swept)

by-done : (s : Stage) (m : Machine) → m.stage ≡ s → refusals_so_far (fed_done s m) ≤ refusals_at s m.outcome + refusals_of_left m.swept
by-done Preparing m e = omega (arith, begins (m.done + 1 == m.plan.journal) m.outcome)
by-done Beginning m e = omega (arith, works (m.done + 1 == m.plan.publish) m.outcome)
by-done Working m e = omega (arith, works (m.done + 1 == m.plan.publish) m.outcome)
by-done Publishing m e = omega arith
by-done Asking m e = omega arith
by-done Finishing m e = finishes (nat_lt m.done m.plan.commit) m
by-done Undoing m e = undoes (nat_lt (m.place + 1) (length m.plan.undo.items)) m e
by-done Sweeping m e = passes-gone m
by-done Removing m e = passes-gone m

is-unpublished : (b : Bool) (m : Machine) → refusals_so_far (if b then record m { stage = Asking; outcome = Fault } else undoing Fault m) ≤ refusals_of_short m.outcome + refusals_of_left m.swept + 1
is-unpublished true m = omega arith
is-unpublished false m = omega arith

by-failed : (s : Stage) (m : Machine) → refusals_so_far (fed_failed s m) ≤ refusals_at s m.outcome + refusals_of_left m.swept + 1
by-failed Preparing m = omega arith
by-failed Beginning m = omega arith
by-failed Working m = omega arith
by-failed Publishing m = is-unpublished (nat_lt 0 (bytes_in (slice_get m.plan.ops.items m.done))) m
by-failed Asking m = omega arith
by-failed Finishing m = omega arith
by-failed Undoing m = omega arith
by-failed Sweeping m = passes-left m
by-failed Removing m = passes-left m

by-denied : (s : Stage) (m : Machine) → refusals_so_far (fed_denied s m) ≤ refusals_at s m.outcome + refusals_of_left m.swept + 1
by-denied Preparing m = omega arith
by-denied Beginning m = omega arith
by-denied Working m = omega arith
by-denied Publishing m = omega arith
by-denied Asking m = omega arith
by-denied Finishing m = omega arith
by-denied Undoing m = omega arith
by-denied Sweeping m = passes-left m
by-denied Removing m = passes-left m

is-sized : (size : Option ℕ) (m : Machine) → refusals_so_far (stray_sized size m) ≤ refusals_of_short m.outcome + refusals_of_left m.swept
is-sized None m = passes-gone m
is-sized (Some size) m = omega arith

is-short : (b : Bool) (m : Machine) → refusals_so_far (if b then undoing m.outcome m else advanced Finishing m) ≤ max 1 (refusals_of_short m.outcome) + refusals_of_left m.swept
is-short true m = omega arith
is-short false m = omega arith

more : (m n o : ℕ) → m ≤ n + o → m ≤ max 1 n + o
more m n o h = omega arith

by-size : (s : Stage) (size : Option ℕ) (m : Machine) → refusals_so_far (fed_size s size m) ≤ refusals_at s m.outcome + refusals_of_left m.swept
by-size Preparing size m = is-sized size m
by-size Beginning size m = is-sized size m
by-size Working size m = is-sized size m
by-size Publishing size m = is-sized size m
by-size Asking size m = is-short (nat_lt (unwrap_or size 0 - m.plan.before) (bytes_in (slice_get m.plan.ops.items m.done))) m
by-size Finishing size m = is-sized size m
by-size Undoing size m = more _ _ _ (is-sized size m)
by-size Sweeping size m = is-sized size m
by-size Removing size m = is-sized size m

one-more : (m n o : ℕ) → m ≤ n + o + 1 → m ≤ max 1 n + o + 1
one-more m n o h = omega arith

by-no-size : (s : Stage) (m : Machine) → refusals_so_far (fed_no_size s m) ≤ refusals_at s m.outcome + refusals_of_left m.swept + 1
by-no-size Preparing m = passes-left m
by-no-size Beginning m = passes-left m
by-no-size Working m = passes-left m
by-no-size Publishing m = passes-left m
by-no-size Asking m = omega arith
by-no-size Finishing m = passes-left m
by-no-size Undoing m = one-more _ _ _ (passes-left m)
by-no-size Sweeping m = passes-left m
by-no-size Removing m = passes-left m

by-reply : (m : Machine) (reply : Reply) → refusals_so_far (fed m reply) ≤ refusals_so_far m + refusals_in reply
by-reply m Done = omega (arith, by-done m.stage m refl)
by-reply m Failed = by-failed m.stage m
by-reply m Memory = by-denied m.stage m
by-reply m (Size size) = omega (arith, by-size m.stage size m)
by-reply m SizeFailed = by-no-size m.stage m
by-reply m SizeMemory = by-no-size m.stage m

-- ---- what is counted

one-failed : (f g d e : ℕ) → Rises f g 1 → e ≡ d → WereRefused 1 f g d e
one-failed f g d e rises same = record { failed = 1; wanting = 0; all = omega arith; faults = omega (arith, rises.0); denied = omega arith }

one-wanting : (f g d e : ℕ) → g ≡ f → Rises d e 1 → WereRefused 1 f g d e
one-wanting f g d e same rises = record { failed = 0; wanting = 1; all = omega arith; faults = omega arith; denied = omega (arith, rises.0) }

still : (f g d e : ℕ) → g ≡ f → e ≡ d → WereRefused 0 f g d e
still f g d e a b = record { failed = 0; wanting = 0; all = omega arith; faults = omega arith; denied = omega arith }

pub counted-reply : (f g d e : ℕ) (reply : Reply) → Counted f g d e reply → WereRefused (refusals_in reply) f g d e
counted-reply f g d e Done h = still f g d e h.0 h.1
counted-reply f g d e Failed h = one-failed f g d e h.0 h.1
counted-reply f g d e Memory h = one-wanting f g d e h.0 h.1
counted-reply f g d e (Size size) h = still f g d e h.0 h.1
counted-reply f g d e SizeFailed h = one-failed f g d e h.0 h.1
counted-reply f g d e SizeMemory h = one-wanting f g d e h.0 h.1

-- ---- a step

pub fed-refused : (f g h d e i : ℕ) (m n : Machine) (reply : Reply) → n ≡ fed m reply → Counted g h e i reply → WereRefused (refusals_so_far m) f g d e → WereRefused (refusals_so_far n) f h d i
fed-refused f g h d e i m n reply same counts before =
    let both = both-refused (refusals_so_far m) (refusals_in reply) f g h d e i before (counted-reply g h e i reply counts) in
    subst (λ (x : Machine). WereRefused (refusals_so_far x) f h d i) (sym same) (fewer-refused (refusals_so_far (fed m reply)) (refusals_so_far m + refusals_in reply) f h d i (by-reply m reply) both)

ends-so : (s : Stage) (o : Short) → refusals_of_short o ≤ refusals_at s o
ends-so Preparing o = omega arith
ends-so Beginning o = omega arith
ends-so Working o = omega arith
ends-so Publishing o = omega arith
ends-so Asking o = omega arith
ends-so Finishing o = omega arith
ends-so Undoing o = omega arith
ends-so Sweeping o = omega arith
ends-so Removing o = omega arith

ended-refused : (f g d e : ℕ) (m : Machine) → WereRefused (refusals_so_far m) f g d e → WereRefused (refusals_of_ended m.outcome m.swept) f g d e
ended-refused f g d e m h = fewer-refused (refusals_of_ended m.outcome m.swept) (refusals_so_far m) f g d e (omega (arith, ends-so m.stage m.outcome)) h

pub carried-refused : (f g d e : ℕ) (m : Machine) (ended : Ended) → ended ≡ record { outcome = m.outcome; swept = m.swept } → WereRefused (refusals_so_far m) f g d e → WereRefused (refusals_of_ended ended.outcome ended.swept) f g d e
carried-refused f g d e m ended same h = subst (λ (x : Ended). WereRefused (refusals_of_ended x.outcome x.swept) f g d e) (sym same) (ended-refused f g d e m h)

-- ---- the locks

pub left-refused : (f g d e : ℕ) (swept : Bool) → NeverFall f g d e → CausesLeft f g d e swept → WereRefused (refusals_of_left swept) f g d e
left-refused f g d e true n h = record { failed = 0; wanting = 0; all = omega arith; faults = omega (arith, n.faults); denied = omega (arith, n.denied) }
left-refused f g d e false n (inl a) = record { failed = 1; wanting = 0; all = omega arith; faults = a; denied = omega (arith, n.denied) }
left-refused f g d e false n (inr b) = record { failed = 0; wanting = 1; all = omega arith; faults = omega (arith, n.faults); denied = b }

pub nothing-refused : (f g d e : ℕ) → NeverFall f g d e → WereRefused 0 f g d e
nothing-refused f g d e n = record { failed = 0; wanting = 0; all = omega arith; faults = omega (arith, n.faults); denied = omega (arith, n.denied) }

pub falls-never : (f g h d e i : ℕ) → NeverFall f g d e → NeverFall g h e i → NeverFall f h d i
falls-never f g h d e i n m = record { faults = omega (arith, n.faults, m.faults); denied = omega (arith, n.denied, m.denied) }

pub told-on : (old new : Option (List Op)) (Holds : List Op → Type 0) → GoesOn old new Holds → is_some new ≡ is_some old
told-on None new Holds h = ap is_some h
told-on (Some log) new Holds h = ap is_some h.1

-- a call that was refused is counted, also where it found no memory
of-call : (told : Bool) (why : LockRefusal) → refusals_of_lock told why ≤ refusals_of_call told why
of-call told (Held holder) = omega arith
of-call told Abandoned = omega arith
of-call told LockFault = omega arith
of-call told NoMemory = omega arith

pub first-barred : (f g d e : ℕ) (told : Bool) (why : LockRefusal) → WereRefused (refusals_of_call told why) f g d e → WereRefused (refusals_of_locks told why true) f g d e
first-barred f g d e told why h = fewer-refused (refusals_of_locks told why true) (refusals_of_call told why) f g d e (omega (arith, of-call told why)) h

-- Some was made before the refusal, and was removed behind it or not.
pub lock-refused : (f g h i d e j k : ℕ) (before now : Bool) (why : LockRefusal) (swept : Bool) → now ≡ before → NeverFall f g d e → WereRefused (refusals_of_call now why) g h e j
    → NeverFall h i j k → CausesLeft h i j k swept → WereRefused (refusals_of_locks before why swept) f i d k
lock-refused f g h i d e j k before now why swept same n calls m left =
    let refused = subst (λ b. WereRefused (refusals_of_call b why) g h e j) same calls in
    let first = both-refused 0 (refusals_of_call before why) f g h d e j (nothing-refused f g d e n) refused in
    let all = both-refused (0 + refusals_of_call before why) (refusals_of_left swept) f h i d j k first (left-refused h i j k swept m left) in
    fewer-refused (refusals_of_locks before why swept) (0 + refusals_of_call before why + refusals_of_left swept) f i d k (omega (arith, of-call before why)) all
