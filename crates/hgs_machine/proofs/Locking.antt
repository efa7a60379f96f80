-- The locks, one after another.
use Rattle.std.proofs.Common.{◌≡◌, ℕ, List, [], ◌∷◌, ◌++◌, refl, sym, ◌∙◌, ap, subst, inl, inr, append_assoc, append-nil, Bool, true, false}
use Rattle.std.specs.Prelude.{Option, Some, None, Result, Ok, Err}
use Rattle.hgs_files.specs.declared.op.Op.{Op}
use Rattle.hgs_files.specs.declared.op.Op.TheVariants.{Create, Remove}
use Rattle.hgs_files.specs.Files.{GoesOn}
use Rattle.hgs_files.specs.Log.{IsDone}
use Rattle.hgs_files.specs.Tree.{Tree, after_all}
use Rattle.hgs_files.specs.Theorems.LogLemmas.{after-done}
use Rattle.hgs_journal.specs.Names.{journal_path}
use Rattle.hgs_ops.specs.Operations.{lock_path, wlock_path}
use Rattle.hgs_machine.specs.declared.locks.LockRefusal.{LockRefusal}
use Rattle.hgs_machine.specs.declared.locks.LockRefusal.TheVariants.{Memory}
use Rattle.hgs_machine.specs.Carry.{tree_now}
use Rattle.hgs_machine.specs.Course.{AreSome, lock_removals}
use Rattle.hgs_machine.specs.Locks.{AreLocked, AreRemoved, IsFree, IsTurnedAway, Looks, Makes, TakesLocks, at_journal, at_lock, at_wlock}
use Rattle.hgs_machine.proofs.Pieces.{done-both}
use Rattle.hgs_machine.proofs.Trees.{after_all-append}

pub as-well : (before after : Option (List Op)) (P Q : List Op → Type 0) → ((more : List Op) → P more → Q more) → GoesOn before after P → GoesOn before after Q
as-well None after P Q f h = h
as-well (Some old) after P Q f h = (h.0, h.1, f h.0 h.2)

-- What is done at a tree, and then what is done at the tree that this leaves.
pub then : (before mid after : Option (List Op)) (start start_mid : Tree) (P Q R : Tree → List Op → Type 0) → start_mid ≡ start → ((t : Tree) (a b : List Op) → P t a → Q (after_all a t) b → R t (a ++ b))
    → GoesOn before mid (P (tree_now before start)) → GoesOn mid after (Q (tree_now mid start_mid)) → GoesOn before after (R (tree_now before start))
then None mid after start start_mid P Q R same f h k = subst (λ x. GoesOn x after (Q (tree_now x start_mid))) h k
then (Some log) mid after start start_mid P Q R same f h k =
    let second = subst (λ x. GoesOn x after (Q (tree_now x start_mid))) h.1 k in
    let tree : after_all (log ++ h.0) start_mid ≡ after_all h.0 (after_all log start) = ap (λ (u : Tree). after_all (log ++ h.0) u) same ∙ after_all-append log h.0 start in
    (h.0 ++ second.0, second.1 ∙ ap (λ (l : List Op). Some l) (append_assoc log h.0 second.0), f (after_all log start) h.0 second.0 h.2 (subst (λ (u : Tree). Q u second.0) tree second.2))

-- ---- removals

one-of : (path : List ℕ) (removed : Bool) (c : List Op) → AreRemoved (Remove path ∷ []) removed c → AreSome (Remove path ∷ []) c
one-of path false c h = h
one-of path true c h = inr ([], h, refl)

-- some of one list, and some of another
some-both : (xs ys a b : List Op) → AreSome xs a → AreSome ys b → AreSome (xs ++ ys) (a ++ b)
some-both [] ys a b h k = subst (λ (l : List Op). AreSome ys (l ++ b)) (sym h) k
some-both (x ∷ xs) ys a b (inl h) k = inl (some-both xs ys a b h k)
some-both (x ∷ xs) ys a b (inr h) k = inr (h.0 ++ b, ap (λ (l : List Op). l ++ b) h.1, some-both xs ys h.0 b h.2 k)

pub removed-both : (lock wlock : Bool) (a b : List Op) → AreRemoved (Remove lock_path ∷ []) lock a → AreRemoved (Remove wlock_path ∷ []) wlock b → lock ≡ true → AreRemoved lock_removals wlock (a ++ b)
removed-both lock true a b h k e = ap (λ (l : List Op). l ++ b) (subst (λ x. AreRemoved (Remove lock_path ∷ []) x a) e h) ∙ ap (λ (l : List Op). Remove lock_path ∷ l) k
removed-both lock false a b h k e = some-both (Remove lock_path ∷ []) (Remove wlock_path ∷ []) a b (one-of lock_path lock a h) k

pub removed-some : (lock wlock : Bool) (a b : List Op) → AreRemoved (Remove lock_path ∷ []) lock a → AreRemoved (Remove wlock_path ∷ []) wlock b → lock ≡ false → AreRemoved lock_removals lock (a ++ b)
removed-some lock wlock a b h k e =
    subst (λ x. AreRemoved lock_removals x (a ++ b)) (sym e) (some-both (Remove lock_path ∷ []) (Remove wlock_path ∷ []) a b (one-of lock_path lock a h) (one-of wlock_path wlock b k))

-- ---- refusals

-- the first lock is not the second
pub lock-apart : (who : List ℕ) (t : Tree) (a : List Op) → IsDone (Create wlock_path who ∷ []) a [] → after_all a t lock_path ≡ t lock_path
lock-apart who t a d = ap (λ (u : Tree). u lock_path) (after-done (Create wlock_path who ∷ []) a [] t d)

pub barred-first : (who : List ℕ) (t : Tree) (why : LockRefusal) (done : List Op) → Makes wlock_path who t (Err why) done → TakesLocks {T = Unit {0}} who t (Err (record { why = why; swept = true })) done
barred-first who t why done h = subst (IsTurnedAway who t why true) (sym h.0) (at_wlock why h.1)

-- the second lock could not be made, and the first is removed
pub barred-second : (who : List ℕ) (t : Tree) (why : LockRefusal) (swept : Bool) (a b c : List Op) → Makes wlock_path who t (Ok tt) a → Makes lock_path who (after_all a t) (Err why) b → AreRemoved (Remove wlock_path ∷ []) swept c
    → TakesLocks {T = Unit {0}} who t (Err (record { why = why; swept = swept })) (a ++ (b ++ c))
barred-second who t why swept a b c h k r =
    subst (λ (l : List Op). IsTurnedAway who t why swept (a ++ (l ++ c))) (sym k.0) (at_lock why swept a c h.0 h.1 k.1 r)

pub abandoned : (who : List ℕ) (t : Tree) (why : LockRefusal) (swept : Bool) (a b l c : List Op) → Makes wlock_path who t (Ok tt) a → Makes lock_path who (after_all a t) (Ok tt) b → Looks (after_all b (after_all a t)) (Err why) l → AreRemoved lock_removals swept c
    → TakesLocks {T = Unit {0}} who t (Err (record { why = why; swept = swept })) (a ++ (b ++ (l ++ c)))
abandoned who t why swept a b l c h k s r =
    subst (λ (x : List Op). IsTurnedAway who t why swept (a ++ (b ++ (x ++ c)))) (sym s.0)
    (subst (IsTurnedAway who t why swept) (append_assoc a b c) (at_journal why swept a b c h.0 (sym (lock-apart who t a h.1) ∙ k.0) h.1 k.1 (subst (λ (u : Tree). IsFree (u journal_path) (Err why)) (sym (after_all-append a b t)) s.1) r))

pub locked : (who : List ℕ) (t : Tree) (a b l : List Op) → Makes wlock_path who t (Ok tt) a → Makes lock_path who (after_all a t) (Ok tt) b → Looks (after_all b (after_all a t)) (Ok tt) l → AreLocked who t (a ++ (b ++ l))
locked who t a b l h k s =
    subst (λ (x : List Op). AreLocked who t (a ++ x)) (sym (ap (λ (x : List Op). b ++ x) s.0 ∙ append-nil b))
    (record {
      no_wlock = h.0;
      no_lock = sym (lock-apart who t a h.1) ∙ k.0;
      made = done-both (Create wlock_path who ∷ []) a (Create lock_path who ∷ []) b [] h.1 k.1;
      free = ap (λ (u : Tree). u journal_path) (after_all-append a b t) ∙ s.1;
    })

-- ---- several in a row

-- one is done at this tree, and then the other
abbrev pub Pair : (Tree → List Op → Type 0) → (Tree → List Op → Type 0) → Tree → List Op → Type 0
Pair P Q t done = (a : List Op) × (b : List Op) × (done ≡ a ++ b) × P t a × Q (after_all a t) b

pub pair : (before mid after : Option (List Op)) (start start_mid : Tree) (P Q : Tree → List Op → Type 0) → start_mid ≡ start → GoesOn before mid (P (tree_now before start)) → GoesOn mid after (Q (tree_now mid start_mid)) → GoesOn before after (Pair P Q (tree_now before start))
pair before mid after start start_mid P Q same h k = then before mid after start start_mid P Q (Pair P Q) same (λ t a b p q. (a, b, refl, p, q)) h k

pub named : (path name who : List ℕ) (t : Tree) (r : Result Unit LockRefusal) (done : List Op) → path ≡ name → Makes path who t r done → Makes name who t r done
named path name who t r done e h = subst (λ p. Makes p who t r done) e h

pub locks-made : (who w l : List ℕ) (t : Tree) (a d : List Op) → w ≡ wlock_path → l ≡ lock_path → Makes w who t (Ok tt) a → Pair (λ u. Makes l who u (Ok tt)) (λ u. Looks u (Ok tt)) (after_all a t) d → AreLocked who t (a ++ d)
locks-made who w l t a d ew el h k =
    subst (λ (x : List Op). AreLocked who t (a ++ x)) (sym k.2)
    (locked who t a k.0 k.1 (named w wlock_path who t (Ok tt) a ew h) (named l lock_path who (after_all a t) (Ok tt) k.0 el k.3) k.4)

pub lock-barred : (who w l : List ℕ) (t : Tree) (why : LockRefusal) (swept : Bool) (a d : List Op) → w ≡ wlock_path → l ≡ lock_path → Makes w who t (Ok tt) a → Pair (λ u. Makes l who u (Err why)) (λ u. AreRemoved (Remove w ∷ []) swept) (after_all a t) d
    → TakesLocks {T = Unit {0}} who t (Err (record { why = why; swept = swept })) (a ++ d)
lock-barred who w l t why swept a d ew el h k =
    subst (λ (x : List Op). IsTurnedAway who t why swept (a ++ x)) (sym k.2)
    (barred-second who t why swept a k.0 k.1 (named w wlock_path who t (Ok tt) a ew h) (named l lock_path who (after_all a t) (Err why) k.0 el k.3) (subst (λ p. AreRemoved (Remove p ∷ []) swept k.1) ew k.4))

pub lock-abandoned : (who w l : List ℕ) (t : Tree) (why : LockRefusal) (swept : Bool) (a d : List Op) → w ≡ wlock_path → l ≡ lock_path → Makes w who t (Ok tt) a
    → Pair (λ u. Makes l who u (Ok tt)) (Pair (λ u. Looks u (Err why)) (λ u. AreRemoved lock_removals swept)) (after_all a t) d → TakesLocks {T = Unit {0}} who t (Err (record { why = why; swept = swept })) (a ++ d)
lock-abandoned who w l t why swept a d ew el h k =
    let last = k.4 in
    subst (λ (x : List Op). IsTurnedAway who t why swept (a ++ x)) (sym (k.2 ∙ ap (λ (x : List Op). k.0 ++ x) last.2))
    (abandoned who t why swept a k.0 last.0 last.1 (named w wlock_path who t (Ok tt) a ew h) (named l lock_path who (after_all a t) (Ok tt) k.0 el k.3) last.3 last.4)

-- there was no memory for the names
pub nothing-yet : (who : List ℕ) (before : Option (List Op)) (t : Tree) → GoesOn before before (IsTurnedAway who t Memory true)
nothing-yet who None t = refl
nothing-yet who (Some log) t = ([], ap (λ (l : List Op). Some l) (sym (append-nil log)), at_wlock Memory tt)
