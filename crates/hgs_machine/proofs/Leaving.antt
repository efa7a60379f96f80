-- Locks that could not be removed.
use Rattle.std.proofs.Common.{◌≡◌, ◌≤◌, ℕ, zero, suc, ◌+◌, List, [], ◌∷◌, ◌++◌, refl, sym, ◌∙◌, ap, subst, arith, inl, inr, Bool, true, false, append-nil}
use Rattle.std.specs.Prelude.{Option, Some, None, Ok, Err}
use Rattle.hgs_files.specs.declared.op.Op.{Op}
use Rattle.hgs_files.specs.declared.op.Op.TheVariants.{Remove}
use Rattle.hgs_files.specs.Files.{GoesOn}
use Rattle.hgs_files.specs.Tree.{Tree, after_all}
use Rattle.hgs_ops.specs.Operations.{lock_path, wlock_path}
use Rattle.hgs_machine.specs.declared.locks.LockRefusal.{LockRefusal}
use Rattle.hgs_machine.specs.declared.locks.LockRefusal.TheVariants.{Held, Abandoned, Fault, Memory}
use Rattle.hgs_machine.specs.Locks.{AreRemoved, CausesLeft, Makes, NeverFall}
use Rattle.hgs_machine.specs.Refusals.{WereRefused, how_many_made, how_many_stand, lock_paths, made_now, refusals_of_call, refusals_of_left, refusals_of_made, standing}
use Rattle.hgs_machine.specs.Theorems.RefusedLemmas.{both-refused, fewer-refused, none-refused}
use Rattle.hgs_machine.proofs.Counting.{left-refused, nothing-refused}
use Rattle.hgs_machine.proofs.Locking.{Pair, lock-apart}
use Rattle.hgs_machine.proofs.Trees.{after_all-append}

-- ---- one file

pub at-most-one : (x : Option (List ℕ)) → standing x ≤ 1
at-most-one None = omega arith
at-most-one (Some bytes) = omega arith

not-made : (x : Option (List ℕ)) → made_now x x ≡ 0
not-made None = refl
not-made (Some bytes) = refl

made-stands : (x y : Option (List ℕ)) → made_now x y ≤ standing y
made-stands None None = omega arith
made-stands None (Some bytes) = omega arith
made-stands (Some before) None = omega arith
made-stands (Some before) (Some bytes) = omega arith

-- what could not be removed stands
one-left : (path : List ℕ) → ((t : Tree) → after_all (Remove path ∷ []) t path ≡ None) → (swept : Bool) (c : List Op) (t : Tree) → AreRemoved (Remove path ∷ []) swept c → standing (after_all c t path) ≤ refusals_of_left swept
one-left path gone true c t h = subst (λ (l : List Op). standing (after_all l t path) ≤ 0) (sym h) (subst (λ x. standing x ≤ 0) (sym (gone t)) (omega arith))
one-left path gone false c t h = at-most-one (after_all c t path)

lock-left : (swept : Bool) (c : List Op) (t : Tree) → AreRemoved (Remove lock_path ∷ []) swept c → standing (after_all c t lock_path) ≤ refusals_of_left swept
lock-left = one-left lock_path (λ t. refl)

wlock-left : (swept : Bool) (c : List Op) (t : Tree) → AreRemoved (Remove wlock_path ∷ []) swept c → standing (after_all c t wlock_path) ≤ refusals_of_left swept
wlock-left = one-left wlock_path (λ t. refl)

-- the removal of the one leaves the other
apart : (swept : Bool) (c : List Op) (t : Tree) → AreRemoved (Remove wlock_path ∷ []) swept c → after_all c t lock_path ≡ t lock_path
apart true c t h = ap (λ (l : List Op). after_all l t lock_path) h
apart false c t (inl h) = ap (λ (l : List Op). after_all l t lock_path) h
apart false c t (inr h) = ap (λ (l : List Op). after_all l t lock_path) (h.1 ∙ ap (λ (l : List Op). Remove wlock_path ∷ l) h.2)

-- ---- both locks

released : (lock wlock : Bool) (a b : List Op) (t : Tree) → AreRemoved (Remove lock_path ∷ []) lock a → AreRemoved (Remove wlock_path ∷ []) wlock b → how_many_stand lock_paths (after_all (a ++ b) t) ≤ refusals_of_left lock + refusals_of_left wlock
released lock wlock a b t h k =
    let u = after_all a t in
    let one = subst (λ x. standing x ≤ refusals_of_left lock) (sym (apart wlock b u k)) (lock-left lock a t h) in
    let other = wlock-left wlock b u k in
    subst (λ (v : Tree). how_many_stand lock_paths v ≤ refusals_of_left lock + refusals_of_left wlock) (sym (after_all-append a b t)) (omega (arith, one, other))

pub release-refused : (f g h d e i : ℕ) (lock wlock : Bool) (l w : List ℕ) (a b : List Op) (t : Tree) → l ≡ lock_path → w ≡ wlock_path → NeverFall f g d e → CausesLeft f g d e lock → NeverFall g h e i → CausesLeft g h e i wlock
    → AreRemoved (Remove l ∷ []) lock a → AreRemoved (Remove w ∷ []) wlock b → WereRefused (how_many_stand lock_paths (after_all (a ++ b) t)) f h d i
release-refused f g h d e i lock wlock l w a b t el ew n first m second p q =
    fewer-refused (how_many_stand lock_paths (after_all (a ++ b) t)) (refusals_of_left lock + refusals_of_left wlock) f h d i
    (released lock wlock a b t (subst (λ x. AreRemoved (Remove x ∷ []) lock a) el p) (subst (λ x. AreRemoved (Remove x ∷ []) wlock b) ew q))
    (both-refused (refusals_of_left lock) (refusals_of_left wlock) f g h d e i (left-refused f g d e lock n first) (left-refused g h e i wlock m second))

-- ---- those that were made

fewer : (told : Bool) (why : LockRefusal) (n left : ℕ) → n ≤ left → refusals_of_made told why n ≤ refusals_of_call told why + left
fewer told (Held holder) n left le = omega (arith, le)
fewer told Abandoned n left le = omega (arith, le)
fewer told Fault n left le = omega (arith, le)
fewer told Memory zero left le = omega arith
fewer told Memory (suc n) left le = omega (arith, le)

made-refused : (told : Bool) (why : LockRefusal) (n left f g d e : ℕ) → n ≤ left → WereRefused (refusals_of_call told why + left) f g d e → WereRefused (refusals_of_made told why n) f g d e
made-refused told why n left f g d e le h = fewer-refused (refusals_of_made told why n) (refusals_of_call told why + left) f g d e (fewer told why n left le) h

all-refused : (f g h i d e j k m n : ℕ) → NeverFall f g d e → WereRefused m g h e j → WereRefused n h i j k → WereRefused (m + n) f i d k
all-refused f g h i d e j k m n never a b = fewer-refused (m + n) (0 + m + n) f i d k (omega arith) (both-refused (0 + m) n f h i d j k (both-refused 0 m f g h d e j (nothing-refused f g d e never) a) b)

none-made : (t : Tree) → how_many_made lock_paths t t ≡ 0
none-made t = omega (arith, not-made (t lock_path), not-made (t wlock_path))

-- the first could not be made
pub left-at-wlock : (told : Bool) (why : LockRefusal) (t : Tree) (done : List Op) (f g d e : ℕ) → done ≡ [] → WereRefused (refusals_of_call told why) f g d e → WereRefused (refusals_of_made told why (how_many_made lock_paths t (after_all done t))) f g d e
left-at-wlock told why t done f g d e nothing h =
    subst (λ (l : List Op). WereRefused (refusals_of_made told why (how_many_made lock_paths t (after_all l t))) f g d e) (sym nothing)
    (made-refused told why (how_many_made lock_paths t t) 0 f g d e (omega (arith, none-made t)) (fewer-refused (refusals_of_call told why + 0) (refusals_of_call told why) f g d e (omega arith) h))

-- the second could not
pub left-at-lock : (told now : Bool) (why : LockRefusal) (swept : Bool) (who w l : List ℕ) (t : Tree) (a x : List Op) (f g h i d e j k : ℕ) → now ≡ told → w ≡ wlock_path → NeverFall f g d e → WereRefused (refusals_of_call now why) g h e j → NeverFall h i j k → CausesLeft h i j k swept
    → Makes w who t (Ok tt) a → Pair (λ u. Makes l who u (Err why)) (λ u. AreRemoved (Remove w ∷ []) swept) (after_all a t) x → WereRefused (refusals_of_made told why (how_many_made lock_paths t (after_all (a ++ x) t))) f i d k
left-at-lock told now why swept who w l t a x f g h i d e j k same ew never calls then_never left made rest =
    let c = rest.1 in
    let u = after_all a t in
    let made_first = subst (λ p. Makes p who t (Ok tt) a) ew made in
    let removed = subst (λ p. AreRemoved (Remove p ∷ []) swept c) ew rest.4 in
    let tree : after_all (a ++ x) t ≡ after_all c u = after_all-append a x t ∙ ap (λ (y : List Op). after_all y u) (rest.2 ∙ ap (λ (y : List Op). y ++ c) rest.3.0) in
    let lock_is : after_all c u lock_path ≡ t lock_path = apart swept c u removed ∙ lock-apart who t a made_first.1 in
    let none = subst (λ y. made_now (t lock_path) y ≡ 0) (sym lock_is) (not-made (t lock_path)) in
    let one = made-stands (t wlock_path) (after_all c u wlock_path) in
    let stands = wlock-left swept c u removed in
    let refused = subst (λ b. WereRefused (refusals_of_call b why) g h e j) same calls in
    subst (λ (v : Tree). WereRefused (refusals_of_made told why (how_many_made lock_paths t v)) f i d k) (sym tree)
    (made-refused told why (how_many_made lock_paths t (after_all c u)) (refusals_of_left swept) f i d k (omega (arith, none, one, stands))
    (all-refused f g h i d e j k (refusals_of_call told why) (refusals_of_left swept) never refused (left-refused h i j k swept then_never left)))

-- a journal stands, or was not seen
pub left-at-journal : (told now : Bool) (why : LockRefusal) (t : Tree) (Made Seen : Tree → List Op → Type 0) (a x : List Op) (f g h i d e j k : ℕ) → now ≡ told → NeverFall f g d e → WereRefused (refusals_of_call now why) g h e j
    → Pair Made (Pair Seen (λ u c. WereRefused (how_many_stand lock_paths (after_all c u)) h i j k)) (after_all a t) x → WereRefused (refusals_of_made told why (how_many_made lock_paths t (after_all (a ++ x) t))) f i d k
left-at-journal told now why t Made Seen a x f g h i d e j k same never calls rest =
    let last = rest.4 in
    let u = after_all rest.0 (after_all a t) in
    let v = after_all last.1 (after_all last.0 u) in
    let tree : after_all (a ++ x) t ≡ v =
    after_all-append a x t ∙ ap (λ (y : List Op). after_all y (after_all a t)) rest.2 ∙ after_all-append rest.0 rest.1 (after_all a t)
    ∙ ap (λ (y : List Op). after_all y u) last.2 ∙ after_all-append last.0 last.1 u in
    let one = made-stands (t lock_path) (v lock_path) in
    let other = made-stands (t wlock_path) (v wlock_path) in
    let refused = subst (λ b. WereRefused (refusals_of_call b why) g h e j) same calls in
    subst (λ (y : Tree). WereRefused (refusals_of_made told why (how_many_made lock_paths t y)) f i d k) (sym tree)
    (made-refused told why (how_many_made lock_paths t v) (how_many_stand lock_paths v) f i d k (omega (arith, one, other))
    (all-refused f g h i d e j k (refusals_of_call told why) (how_many_stand lock_paths v) never refused last.4))

-- there was no memory for the names
pub nothing-left : (told : Bool) (before : Option (List Op)) (t : Tree) (f d : ℕ) → GoesOn before before (λ done. WereRefused (refusals_of_made told Memory (how_many_made lock_paths t (after_all done t))) f f d d)
nothing-left told None t f d = refl
nothing-left told (Some log) t f d = ([], ap (λ (l : List Op). Some l) (sym (append-nil log)), fewer-refused (refusals_of_made told Memory (how_many_made lock_paths t t)) 0 f f d d (subst (λ n. refusals_of_made told Memory n ≤ 0) (sym (none-made t)) (omega arith)) (none-refused f d))
