-- How often the calls of a command were refused.
use Rattle.std.proofs.Common.{◌≡◌, ℕ, zero, suc, ◌+◌, ◌≤◌, List, [], ◌∷◌, ◌++◌, refl, sym, ap, subst, inl, inr, arith, Bool, true, false}
use Rattle.std.specs.Prelude.{Option, Some, None}
use Rattle.hgs_answers.specs.declared.answer.Answer.{Answer}
use Rattle.hgs_answers.specs.declared.outcome.Outcome.{Outcome}
use Rattle.hgs_commit.specs.declared.fault.CommitFault.{CommitFault}
use Rattle.hgs_commit.specs.declared.fault.CommitFault.TheVariants as commits
use Rattle.hgs_files.specs.declared.op.Op.{Op}
use Rattle.hgs_files.specs.Reads.{Rose}
use Rattle.hgs_files.specs.Theorems.TreeLemmas.{after_all-append}
use Rattle.hgs_files.specs.Tree.{Tree, after_all}
use Rattle.hgs_index.specs.declared.node.Node.{Node}
use Rattle.hgs_load.specs.declared.answer.ReadAnswer.TheVariants as reads
use Rattle.hgs_machine.specs.Locks.{CausesLeft, NeverFall}
use Rattle.hgs_machine.specs.Refusals.{WereRefused, how_many_made, how_many_stand, lock_paths, made_now, paths_removed_after, refusals_of_ended, refusals_of_left, refusals_of_lock, refusals_of_locks, refusals_of_made, refusals_of_short, standing}
use Rattle.hgs_machine.specs.declared.ended.Published.TheVariants as ended
use Rattle.hgs_machine.specs.declared.ended.Short.{Short}
use Rattle.hgs_machine.specs.declared.ended.Short.TheVariants as shorts
use Rattle.hgs_machine.specs.declared.locks.LockRefusal.{LockRefusal}
use Rattle.hgs_machine.specs.declared.locks.LockRefusal.TheVariants as locked
use Rattle.hgs_model.specs.declared.command.Refusal.TheVariants as refusals
use Rattle.hgs_steps.specs.declared.fault.PlanFault.TheVariants as plans
use Rattle.hgs_writer.specs.Outcomes.{outcome_of_commit, outcome_of_ended, outcome_of_lock}
use Rattle.hgs_writer.specs.Refusals.{paths_behind, refusals_of, refusals_of_outcome}

-- ---- counts

none-since : (f g d e : ℕ) → f ≤ g → d ≤ e → WereRefused 0 f g d e
none-since f g d e a b = record { failed = 0; wanting = 0; all = omega arith; faults = omega arith; denied = omega arith }

one-failed : (f g d e : ℕ) → Rose f g → d ≤ e → WereRefused 1 f g d e
one-failed f g d e a b = record { failed = 1; wanting = 0; all = omega arith; faults = a; denied = omega arith }

one-wanting : (f g d e : ℕ) → f ≤ g → Rose d e → WereRefused 1 f g d e
one-wanting f g d e a b = record { failed = 0; wanting = 1; all = omega arith; faults = omega arith; denied = b }

fewer : (m n f g d e : ℕ) → m ≤ n → WereRefused n f g d e → WereRefused m f g d e
fewer m n f g d e less h = record { failed = h.failed; wanting = h.wanting; all = omega arith; faults = h.faults; denied = h.denied }

pub in-turn : (m n f g h d e i : ℕ) → WereRefused m f g d e → WereRefused n g h e i → WereRefused (m + n) f h d i
in-turn m n f g h d e i a b = record {
  failed = a.failed + b.failed;
  wanting = a.wanting + b.wanting;
  all = omega arith;
  faults = omega (arith, a.faults, b.faults);
  denied = omega (arith, a.denied, b.denied);
}

left-behind : (f g d e : ℕ) (swept : Bool) → NeverFall f g d e → CausesLeft f g d e swept → WereRefused (refusals_of_left swept) f g d e
left-behind f g d e true n h = none-since f g d e n.faults n.denied
left-behind f g d e false n (inl a) = one-failed f g d e a n.denied
left-behind f g d e false n (inr b) = one-wanting f g d e n.faults b

-- ---- answers

of-lock : (told : Bool) (why : LockRefusal) → refusals_of_outcome told (outcome_of_lock why) ≡ refusals_of_lock told why
of-lock told (locked.Held holder) = refl
of-lock told locked.Abandoned = refl
of-lock told locked.Fault = refl
of-lock told locked.Memory = refl

pub turned-away : (f g d e : ℕ) (told : Bool) (why : LockRefusal) (swept : Bool) (answer : Answer) → answer.outcome ≡ outcome_of_lock why → answer.swept ≡ swept
    → WereRefused (refusals_of_locks told why swept) f g d e → WereRefused (refusals_of told answer) f g d e
turned-away f g d e told why swept answer outcome same h =
    let first : refusals_of_outcome told answer.outcome ≡ refusals_of_lock told why = subst (λ o. refusals_of_outcome told o ≡ refusals_of_lock told why) (sym outcome) (of-lock told why) in
    let second : refusals_of_left answer.swept ≡ refusals_of_left swept = subst (λ b. refusals_of_left answer.swept ≡ refusals_of_left b) same refl in
    fewer (refusals_of told answer) (refusals_of_locks told why swept) f g d e (omega (arith, first, second)) h

of-plan : (f g d e : ℕ) (told : Bool) (fault : CommitFault) → f ≤ g → d ≤ e → (fault ≡ commits.Unread reads.Fault → Rose f g) → WereRefused (refusals_of_outcome told (outcome_of_commit fault)) f g d e
of-plan f g d e told (commits.Unread (reads.Damaged damage)) a b rose = none-since f g d e a b
of-plan f g d e told (commits.Unread reads.Fault) a b rose = one-failed f g d e (rose refl) b
of-plan f g d e told (commits.Unread (reads.Limit which)) a b rose = none-since f g d e a b
of-plan f g d e told (commits.Unread reads.UnknownPath) a b rose = none-since f g d e a b
of-plan f g d e told (commits.Unread reads.NotARepository) a b rose = none-since f g d e a b
of-plan f g d e told (commits.Unread (reads.Requirement word)) a b rose = none-since f g d e a b
of-plan f g d e told (commits.Unread reads.Memory) a b rose = none-since f g d e a b
of-plan f g d e told (commits.Refused (plans.Refused refusals.UnknownRevision)) a b rose = none-since f g d e a b
of-plan f g d e told (commits.Refused (plans.Refused refusals.UnknownPath)) a b rose = none-since f g d e a b
of-plan f g d e told (commits.Refused (plans.Refused (refusals.CopyOver path))) a b rose = none-since f g d e a b
of-plan f g d e told (commits.Refused (plans.Refused (refusals.NeedsForce rev))) a b rose = none-since f g d e a b
of-plan f g d e told (commits.Refused (plans.Refused (refusals.NothingChanged rev))) a b rose = none-since f g d e a b
of-plan f g d e told (commits.Refused (plans.Limit which)) a b rose = none-since f g d e a b
of-plan f g d e told (commits.Refused (plans.NameClash other)) a b rose = none-since f g d e a b
of-plan f g d e told (commits.Refused (plans.InTheWay path)) a b rose = none-since f g d e a b
of-plan f g d e told (commits.Refused (plans.Collision path rev)) a b rose = none-since f g d e a b
of-plan f g d e told (commits.Refused plans.Memory) a b rose = none-since f g d e a b

-- The locks were taken, nothing was planned, and the locks were released.
pub not-planned : (f g h i d e j k : ℕ) (told : Bool) (fault : CommitFault) (swept : Bool) (answer : Answer) → answer.outcome ≡ outcome_of_commit fault → answer.swept ≡ swept
    → NeverFall f g d e → g ≤ h → e ≤ j → (fault ≡ commits.Unread reads.Fault → Rose g h) → NeverFall h i j k → CausesLeft h i j k swept → WereRefused (refusals_of told answer) f i d k
not-planned f g h i d e j k told fault swept answer outcome same n a b rose m left =
    let planned = of-plan g h e j told fault a b rose in
    let before = in-turn 0 (refusals_of_outcome told (outcome_of_commit fault)) f g h d e j (none-since f g d e n.faults n.denied) planned in
    let all = in-turn (0 + refusals_of_outcome told (outcome_of_commit fault)) (refusals_of_left swept) f h i d j k before (left-behind h i j k swept m left) in
    let first : refusals_of_outcome told answer.outcome ≡ refusals_of_outcome told (outcome_of_commit fault) = subst (λ o. refusals_of_outcome told o ≡ refusals_of_outcome told (outcome_of_commit fault)) (sym outcome) refl in
    let second : refusals_of_left answer.swept ≡ refusals_of_left swept = subst (λ b. refusals_of_left answer.swept ≡ refusals_of_left b) same refl in
    fewer (refusals_of told answer) (0 + refusals_of_outcome told (outcome_of_commit fault) + refusals_of_left swept) f i d k (omega (arith, first, second)) all

of-short : (told : Bool) (short : Short) (rev : ℕ) (node : Node) → refusals_of_outcome told (outcome_of_ended short rev node) ≤ refusals_of_short short
of-short told shorts.Done rev node = omega arith
of-short told shorts.Fault rev node = omega arith
of-short told shorts.Memory rev node = omega arith
of-short told (shorts.Unfinished ended.No) rev node = omega arith
of-short told (shorts.Unfinished ended.Yes) rev node = omega arith
of-short told (shorts.Unfinished ended.Unknown) rev node = omega arith

pub carried-out : (f g d e : ℕ) (told : Bool) (short : Short) (swept : Bool) (rev : ℕ) (node : Node) (answer : Answer) → answer.outcome ≡ outcome_of_ended short rev node → answer.swept ≡ swept
    → WereRefused (refusals_of_ended short swept) f g d e → WereRefused (refusals_of told answer) f g d e
carried-out f g d e told short swept rev node answer outcome same h =
    let first : refusals_of_outcome told answer.outcome ≡ refusals_of_outcome told (outcome_of_ended short rev node) = subst (λ o. refusals_of_outcome told o ≡ refusals_of_outcome told (outcome_of_ended short rev node)) (sym outcome) refl in
    let second : refusals_of_left answer.swept ≡ refusals_of_left swept = subst (λ b. refusals_of_left answer.swept ≡ refusals_of_left b) same refl in
    fewer (refusals_of told answer) (refusals_of_ended short swept) f g d e (omega (arith, first, second, of-short told short rev node)) h

-- The locks were taken before that.
pub begun-first : (f g h d e i n : ℕ) → f ≤ g → d ≤ e → WereRefused n g h e i → WereRefused n f h d i
begun-first f g h d e i n a b calls = fewer n (0 + n) f h d i (omega arith) (in-turn 0 n f g h d e i (none-since f g d e a b) calls)

-- ---- files that stay behind

made-stands : (x y : Option (List ℕ)) → made_now x y ≤ standing y
made-stands None None = omega arith
made-stands None (Some bytes) = omega arith
made-stands (Some before) None = omega arith
made-stands (Some before) (Some bytes) = omega arith

-- what was made and is counted stands
made-stand : (paths : List (List ℕ)) (t u : Tree) → how_many_made paths t u ≤ how_many_stand paths u
made-stand [] t u = omega arith
made-stand (path ∷ paths) t u = omega (arith, made-stands (t path) (u path), made-stand paths t u)

of-made : (told : Bool) (why : LockRefusal) (n : ℕ) → refusals_of_outcome told (outcome_of_lock why) + n ≤ refusals_of_made told why n
of-made told (locked.Held holder) n = omega arith
of-made told locked.Abandoned n = omega arith
of-made told locked.Fault n = omega arith
of-made told locked.Memory zero = omega arith
of-made told locked.Memory (suc n) = omega arith

-- The locks were not taken.
pub turned-away-left : (f g d e n : ℕ) (told : Bool) (why : LockRefusal) (outcome : Outcome) → outcome ≡ outcome_of_lock why → WereRefused (refusals_of_made told why n) f g d e → WereRefused (refusals_of_outcome told outcome + n) f g d e
turned-away-left f g d e n told why outcome same h =
    subst (λ o. WereRefused (refusals_of_outcome told o + n) f g d e) (sym same) (fewer (refusals_of_outcome told (outcome_of_lock why) + n) (refusals_of_made told why n) f g d e (of-made told why n) h)

-- The locks were taken, nothing was planned, and the locks were released.
pub not-planned-left : (f g h i d e j k : ℕ) (told : Bool) (fault : CommitFault) (outcome : Outcome) (t : Tree) (a b : List Op) → outcome ≡ outcome_of_commit fault → NeverFall f g d e → g ≤ h → e ≤ j → (fault ≡ commits.Unread reads.Fault → Rose g h)
    → WereRefused (how_many_stand lock_paths (after_all b (after_all a t))) h i j k → WereRefused (refusals_of_outcome told outcome + how_many_made lock_paths t (after_all (a ++ b) t)) f i d k
not-planned-left f g h i d e j k told fault outcome t a b same n later refused rose left =
    let u = after_all b (after_all a t) in
    let o = outcome_of_commit fault in
    let planned = in-turn 0 (refusals_of_outcome told o) f g h d e j (none-since f g d e n.faults n.denied) (of-plan g h e j told fault later refused rose) in
    let all = in-turn (0 + refusals_of_outcome told o) (how_many_stand lock_paths u) f h i d j k planned left in
    subst (λ x. WereRefused (refusals_of_outcome told x + how_many_made lock_paths t (after_all (a ++ b) t)) f i d k) (sym same)
    (subst (λ (v : Tree). WereRefused (refusals_of_outcome told o + how_many_made lock_paths t v) f i d k) (sym (after_all-append a b t))
    (fewer (refusals_of_outcome told o + how_many_made lock_paths t u) (0 + refusals_of_outcome told o + how_many_stand lock_paths u) f i d k (omega (arith, made-stand lock_paths t u)) all))

paths-of-short : (short : Short) (rev : ℕ) (node : Node) → paths_behind (outcome_of_ended short rev node) ≡ paths_removed_after short
paths-of-short shorts.Done rev node = refl
paths-of-short shorts.Fault rev node = refl
paths-of-short shorts.Memory rev node = refl
paths-of-short (shorts.Unfinished published) rev node = refl

pub carried-left : (f g d e : ℕ) (told : Bool) (short : Short) (rev : ℕ) (node : Node) (outcome : Outcome) (t : Tree) → outcome ≡ outcome_of_ended short rev node
    → WereRefused (refusals_of_short short + how_many_stand (paths_removed_after short) t) f g d e → WereRefused (refusals_of_outcome told outcome + how_many_stand (paths_behind outcome) t) f g d e
carried-left f g d e told short rev node outcome t same h =
    let paths = ap (λ (l : List (List ℕ)). how_many_stand l t) (paths-of-short short rev node) in
    subst (λ o. WereRefused (refusals_of_outcome told o + how_many_stand (paths_behind o) t) f g d e) (sym same)
    (fewer (refusals_of_outcome told (outcome_of_ended short rev node) + how_many_stand (paths_behind (outcome_of_ended short rev node)) t) (refusals_of_short short + how_many_stand (paths_removed_after short) t) f g d e (omega (arith, of-short told short rev node, paths)) h)

-- The locks were taken before that.
pub begun-left : (f g h d e i : ℕ) (told : Bool) (outcome : Outcome) (t : Tree) (a b : List Op) → f ≤ g → d ≤ e → WereRefused (refusals_of_outcome told outcome + how_many_stand (paths_behind outcome) (after_all b (after_all a t))) g h e i
    → WereRefused (refusals_of_outcome told outcome + how_many_stand (paths_behind outcome) (after_all (a ++ b) t)) f h d i
begun-left f g h d e i told outcome t a b later refused calls =
    subst (λ (v : Tree). WereRefused (refusals_of_outcome told outcome + how_many_stand (paths_behind outcome) v) f h d i) (sym (after_all-append a b t))
    (begun-first f g h d e i (refusals_of_outcome told outcome + how_many_stand (paths_behind outcome) (after_all b (after_all a t))) later refused calls)
