-- Trees that differ in their locks alone.
use Rattle.std.proofs.Common.{◌≡◌, ℕ, List, [], ◌∷◌, ◌++◌, map, Bool, true, false, refl, sym, ◌∙◌, ap, subst}
use Rattle.std.specs.Prelude.{Option, Some, None, IsSome}
use Rattle.std.specs.List.{AllByRecursion}
use Rattle.hgs_files.specs.declared.op.Op.{Op}
use Rattle.hgs_files.specs.declared.op.Op.TheVariants.{Create, Remove}
use Rattle.hgs_files.specs.Log.{IsDone}
use Rattle.hgs_files.specs.Tree.{Tree, after_all, apply, same_path, with_file}
use Rattle.hgs_files.specs.Theorems.LogLemmas.{after-done}
use Rattle.hgs_files.specs.Theorems.TreeLemmas.{after_all-append, with_file-other}
use Rattle.hgs_journal.specs.Names.{journal_path}
use Rattle.hgs_machine.specs.Course.{AreGone, CarriedOut, lock_removals}
use Rattle.hgs_machine.specs.Locks.{AreLocked, AreRemoved, IsTurnedAway, at_journal, at_lock, at_wlock}
use Rattle.hgs_machine.specs.declared.ended.Short.{Short}
use Rattle.hgs_machine.specs.declared.ended.Short.TheVariants.{Done, Fault, Unfinished, Memory}
use Rattle.hgs_machine.specs.declared.locks.LockRefusal.{LockRefusal}
use Rattle.hgs_machine.specs.declared.locks.LockRefusal.TheVariants.{Held, Abandoned}
use Rattle.hgs_ops.specs.Operations.{lock_path, removals, strays, wlock_path}
use Rattle.hgs_transaction.specs.declared.assemble.Plan.{Plan}
use Rattle.hgs_writer.specs.Made.{HasNoLocks, HasNoStrays, IsOver}

-- ---- no locks

gone-behind : (u : Tree) (front back : List Op) → AreGone u (front ++ back) → AreGone u back
gone-behind u [] back g = g
gone-behind u (op ∷ front) back g = gone-behind u front back g.1

gone-locks : (u : Tree) → AreGone u lock_removals → HasNoLocks u
gone-locks u g = (g.1.0, (g.0, tt))

gone-removals : (u : Tree) → AreGone u removals → HasNoLocks u
gone-removals u g = gone-locks u (gone-behind u (map (λ path. Remove path) strays) lock_removals g)

pub carried-no-locks : (v : Tree) (plan : Plan) (outcome : Short) (log : List Op) → CarriedOut v plan outcome true log → HasNoLocks (after_all log v)
carried-no-locks v plan Done log c = gone-removals (after_all log v) (c.gone refl)
carried-no-locks v plan Fault log c = gone-removals (after_all log v) (c.gone refl)
carried-no-locks v plan Memory log c = gone-removals (after_all log v) (c.gone refl)
carried-no-locks v plan (Unfinished published) log c = gone-locks (after_all log v) (c.gone refl)

pub released-no-locks : (v : Tree) (log : List Op) → AreRemoved lock_removals true log → HasNoLocks (after_all log v)
released-no-locks v log e = subst (λ l. HasNoLocks (after_all l v)) (sym e) (refl, (refl, tt))

wlock-made : (who : List ℕ) (t : Tree) (a : List Op) → IsDone (Create wlock_path who ∷ []) a [] → after_all a t ≡ with_file t wlock_path (Some who)
wlock-made who t a d = after-done (Create wlock_path who ∷ []) a [] t d

pub turned-away-no-locks : (t : Tree) (who : List ℕ) (why : LockRefusal) (swept : Bool) (log : List Op) → HasNoLocks t → IsTurnedAway who t why swept log → swept ≡ true → HasNoLocks (after_all log t)
turned-away-no-locks t who why _ _ none (at_wlock _ barred) e = none
turned-away-no-locks t who why swept _ none (at_lock _ _ a c free_wlock d barred removed) e =
    let gone : c ≡ Remove wlock_path ∷ [] = subst (λ b. AreRemoved (Remove wlock_path ∷ []) b c) e removed in
    subst HasNoLocks (sym (after_all-append a c t ∙ ap (λ l. after_all l (after_all a t)) gone ∙ ap (after_all (Remove wlock_path ∷ [])) (wlock-made who t a d))) (refl, (none.1.0, tt))
turned-away-no-locks t who why swept _ none (at_journal _ _ a b c free_wlock free_lock d f free removed) e =
    subst HasNoLocks (sym (after_all-append (a ++ b) c t)) (released-no-locks (after_all (a ++ b) t) c (subst (λ x. AreRemoved lock_removals x c) e removed))

-- ---- who is turned away

nothing-there : {A : Type 0} (file : Option (List ℕ)) → file ≡ None → IsSome file → A
nothing-there None e is = cc
nothing-there (Some x) e is = cc

-- what stands apart from the locks stays
both-made : (who : List ℕ) (t : Tree) (a b : List Op) → IsDone (Create wlock_path who ∷ []) a [] → IsDone (Create lock_path who ∷ []) b [] → after_all (a ++ b) t ≡ with_file (with_file t wlock_path (Some who)) lock_path (Some who)
both-made who t a b d f = after_all-append a b t ∙ after-done (Create lock_path who ∷ []) b [] (after_all a t) f ∙ ap (λ u. with_file u lock_path (Some who)) (wlock-made who t a d)

pub held-nowhere : (t : Tree) (who : List ℕ) (holder : Option (List ℕ)) (swept : Bool) (log : List Op) → HasNoLocks t → IsTurnedAway who t (Held holder) swept log → ⊥
held-nowhere t who holder _ _ none (at_wlock _ barred) = nothing-there (t wlock_path) none.0 barred.0
held-nowhere t who holder swept _ none (at_lock _ _ a c free_wlock d barred removed) = nothing-there (after_all a t lock_path) (ap (λ (u : Tree). u lock_path) (wlock-made who t a d) ∙ none.1.0) barred.0
held-nowhere t who holder swept _ none (at_journal _ _ a b c free_wlock free_lock d f free removed) = free

pub abandoned-nowhere : (t : Tree) (who : List ℕ) (swept : Bool) (log : List Op) → t journal_path ≡ None → IsTurnedAway who t Abandoned swept log → ⊥
abandoned-nowhere t who _ _ none (at_wlock _ barred) = barred
abandoned-nowhere t who swept _ none (at_lock _ _ a c free_wlock d barred removed) = barred
abandoned-nowhere t who swept _ none (at_journal _ _ a b c free_wlock free_lock d f free removed) = nothing-there (after_all (a ++ b) t journal_path) (ap (λ (u : Tree). u journal_path) (both-made who t a b d f) ∙ none) free

-- ---- under the locks

pub under-locks : (who : List ℕ) (t : Tree) (locking : List Op) → AreLocked who t locking → after_all locking t ≡ with_file (with_file t wlock_path (Some who)) lock_path (Some who)
under-locks who t locking locked = after-done (Create wlock_path who ∷ Create lock_path who ∷ []) locking [] t locked.made

pub locks-apart : (who : List ℕ) (t : Tree) (locking : List Op) (path : List ℕ) → AreLocked who t locking → same_path wlock_path path ≡ false → same_path lock_path path ≡ false → after_all locking t path ≡ t path
locks-apart who t locking path locked w l =
    ap (λ (u : Tree). u path) (under-locks who t locking locked) ∙ with_file-other (with_file t wlock_path (Some who)) lock_path path (Some who) l ∙ with_file-other t wlock_path path (Some who) w

-- ---- who is not turned away

pub locked-free : (who : List ℕ) (t : Tree) (locking : List Op) → AreLocked who t locking → HasNoLocks t
locked-free who t locking locked = (locked.no_wlock, (locked.no_lock, tt))

pub abandoned-free : (t : Tree) (who : List ℕ) (swept : Bool) (log : List Op) → IsTurnedAway who t Abandoned swept log → HasNoLocks t
abandoned-free t who _ _ (at_wlock _ barred) = absurd barred
abandoned-free t who swept _ (at_lock _ _ a c free_wlock d barred removed) = absurd barred
abandoned-free t who swept _ (at_journal _ _ a b c free_wlock free_lock d f free removed) = (free_wlock, (free_lock, tt))

pub locked-no-journal : (who : List ℕ) (t : Tree) (locking : List Op) → AreLocked who t locking → t journal_path ≡ None
locked-no-journal who t locking locked = sym (locks-apart who t locking journal_path locked refl refl) ∙ locked.free

-- ---- no strays

gone-front : (u : Tree) (paths : List (List ℕ)) (back : List Op) → AreGone u (map (λ path. Remove path) paths ++ back) → AllByRecursion (λ path. u path ≡ None) paths
gone-front u [] back g = tt
gone-front u (p ∷ paths) back g = (g.0, gone-front u paths back g.1)

pub carried-no-strays : (v : Tree) (plan : Plan) (outcome : Short) (log : List Op) → IsOver outcome → CarriedOut v plan outcome true log → HasNoStrays (after_all log v)
carried-no-strays v plan Done log over c = gone-front (after_all log v) strays lock_removals (c.gone refl)
carried-no-strays v plan Fault log over c = gone-front (after_all log v) strays lock_removals (c.gone refl)
carried-no-strays v plan Memory log over c = gone-front (after_all log v) strays lock_removals (c.gone refl)
carried-no-strays v plan (Unfinished published) log over c = absurd over

-- both locks were made and are removed
freed-no-strays : (who : List ℕ) (t v : Tree) (log : List Op) → v ≡ with_file (with_file t wlock_path (Some who)) lock_path (Some who) → HasNoStrays t → log ≡ lock_removals → HasNoStrays (after_all log v)
freed-no-strays who t v log tree none e =
    subst (λ l. HasNoStrays (after_all l v)) (sym e) (subst (λ u. HasNoStrays (after_all lock_removals u)) (sym tree) none)

pub released-no-strays : (who : List ℕ) (t : Tree) (locking log : List Op) → AreLocked who t locking → HasNoStrays t → AreRemoved lock_removals true log → HasNoStrays (after_all log (after_all locking t))
released-no-strays who t locking log locked none e = freed-no-strays who t (after_all locking t) log (under-locks who t locking locked) none e

pub turned-away-no-strays : (t : Tree) (who : List ℕ) (why : LockRefusal) (swept : Bool) (log : List Op) → HasNoStrays t → IsTurnedAway who t why swept log → swept ≡ true → HasNoStrays (after_all log t)
turned-away-no-strays t who why _ _ none (at_wlock _ barred) e = none
turned-away-no-strays t who why swept _ none (at_lock _ _ a c free_wlock d barred removed) e =
    let gone : c ≡ Remove wlock_path ∷ [] = subst (λ b. AreRemoved (Remove wlock_path ∷ []) b c) e removed in
    subst HasNoStrays (sym (after_all-append a c t ∙ ap (λ l. after_all l (after_all a t)) gone ∙ ap (after_all (Remove wlock_path ∷ [])) (wlock-made who t a d))) none
turned-away-no-strays t who why swept _ none (at_journal _ _ a b c free_wlock free_lock d f free removed) e =
    subst HasNoStrays (sym (after_all-append (a ++ b) c t)) (freed-no-strays who t (after_all (a ++ b) t) c (both-made who t a b d f) none (subst (λ x. AreRemoved lock_removals x c) e removed))
