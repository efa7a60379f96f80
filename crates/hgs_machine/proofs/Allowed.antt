-- What is asked of the files is what the call may leave when it breaks off behind that.
use Rattle.std.proofs.Common.{◌≡◌, ℕ, ◌+◌, List, [], ◌∷◌, ◌++◌, refl, sym, ◌∙◌, ap, subst, inl, inr, append_assoc, append-nil, length, Bool, true, false}
use Rattle.std.specs.Prelude.{Option, None, Ok, Err, if◌then◌else◌, nat_lt}
use Rattle.hgs_files.specs.declared.op.Op.{Op}
use Rattle.hgs_files.specs.declared.op.Op.TheVariants.{Append, Cut, Rename, Remove, Create, Sync, Settle}
use Rattle.hgs_files.specs.Files.{GoesOn, MayCreate, MayDo}
use Rattle.hgs_files.specs.Tree.{Tree, after_all}
use Rattle.hgs_ops.specs.Operations.{lock_path, wlock_path}
use Rattle.hgs_transaction.specs.declared.assemble.Plan.{Plan}
use Rattle.hgs_machine.specs.declared.ended.Short.TheVariants.{Done as AllDone}
use Rattle.hgs_machine.specs.declared.locks.LockRefusal.{LockRefusal}
use Rattle.hgs_machine.specs.declared.locks.LockRefusal.TheVariants.{Fault}
use Rattle.hgs_machine.specs.declared.machine.Machine.{Machine}
use Rattle.hgs_machine.specs.declared.machine.Reply.TheVariants.{Done, Memory}
use Rattle.hgs_machine.specs.declared.machine.Stage.{Stage}
use Rattle.hgs_machine.specs.declared.machine.Stage.TheVariants.{Preparing, Beginning, Working, Publishing, Asking, Finishing, Undoing, Sweeping, Removing}
use Rattle.hgs_machine.specs.Asked.{Doing, Ending, Question, Sizing, asked}
use Rattle.hgs_machine.specs.Carry.{MayAsk, MayCarry, tree_now}
use Rattle.hgs_machine.specs.Course.{CarriedOut, lock_removals}
use Rattle.hgs_machine.specs.Fed.{advanced, fed_done, sweeping}
use Rattle.hgs_machine.specs.Locks.{AreRemoved, Looks, Makes, MayLock, MayRelease}
use Rattle.hgs_machine.specs.SoFar.{IsInPart, Leaves, Replies, SoFar}
use Rattle.hgs_machine.specs.Theorems.LogLemmas.{behind}
use Rattle.hgs_machine.proofs.Going.{goes-done}
use Rattle.hgs_machine.proofs.Locking.{Pair, barred-second, abandoned, named}
use Rattle.hgs_machine.proofs.Pieces.{denied-failed, done-whole}
use Rattle.hgs_machine.proofs.Stopping.{stops}

-- ---- a plan that is carried out

either-plan : (b : Bool) (x y : Machine) (p : Plan) → x.plan ≡ p → y.plan ≡ p → (if b then x else y).plan ≡ p
either-plan true x y p h k = h
either-plan false x y p h k = k

same-plan : (s : Stage) (m : Machine) → (fed_done s m).plan ≡ m.plan
same-plan Preparing m = refl
same-plan Beginning m = refl
same-plan Working m = refl
same-plan Publishing m = refl
same-plan Asking m = refl
same-plan Finishing m = either-plan (nat_lt m.done m.plan.commit) (advanced Finishing m) (sweeping AllDone (advanced Finishing m)) m.plan refl refl
same-plan Undoing m = either-plan (nat_lt (m.place + 1) (length m.plan.undo.items)) (record m { place = m.place + 1 }) (sweeping m.outcome m) m.plan refl refl
same-plan Sweeping m = refl
same-plan Removing m = refl

leaves-whole : (op : Op) → Leaves op Done (op ∷ [])
leaves-whole (Append path bytes) = done-whole (Append path bytes) (Append path bytes ∷ []) refl
leaves-whole (Create path bytes) = done-whole (Create path bytes) (Create path bytes ∷ []) refl
leaves-whole (Cut path len) = refl
leaves-whole (Rename from to) = refl
leaves-whole (Remove path) = refl
leaves-whole (Sync path) = refl
leaves-whole Settle = refl

denied : (op : Op) → Leaves op Memory []
denied (Append path bytes) = refl
denied (Create path bytes) = refl
denied (Cut path len) = refl
denied (Rename from to) = refl
denied (Remove path) = refl
denied (Sync path) = refl
denied Settle = refl

-- nothing is a part of what is asked for
nothing-of : (q : Question) → IsInPart q []
nothing-of (Doing op) = denied-failed op [] (denied op)
nothing-of (Sizing path) = refl
nothing-of Ending = refl

-- behind the operation that is asked for, the plan may break off
breaks : (A : List Op → Type 0) (t : Tree) (m : Machine) (plan : Plan) (op : Op) (old more : List Op) → m.plan ≡ plan → asked m ≡ Doing op → SoFar t m more
    → ((log : List Op) → CarriedOut t plan (Rattle.hgs_machine.specs.SoFar.stopped_as (fed_done m.stage m)) false log → A (old ++ log)) → A ((old ++ more) ++ op ∷ [])
breaks A t m plan op old more same asks h takes =
    let next = fed_done m.stage m in
    let replied = subst (λ q. Replies (after_all more t) q Done (op ∷ [])) (sym asks) (leaves-whole op) in
    let stopped = stops t next (more ++ op ∷ []) [] (goes-done m t more (op ∷ []) h replied) (nothing-of (asked next)) in
    let log = (more ++ op ∷ []) ++ [] in
    let carried = subst (λ p. CarriedOut t p (Rattle.hgs_machine.specs.SoFar.stopped_as next) false log) (same-plan m.stage m ∙ same) stopped in
    subst A (ap (λ l. old ++ l) (append-nil (more ++ op ∷ [])) ∙ sym (append_assoc old more (op ∷ []))) (takes log carried)

asks-in : (A : Tree → List Op → Type 0) (before now : Option (List Op)) (start start_now : Tree) (m : Machine) (plan : Plan) (q : Question) → asked m ≡ q → m.plan ≡ plan → start_now ≡ start
    → MayCarry before (A start) start plan → GoesOn before now (SoFar (tree_now before start) m) → MayAsk now (A start_now) q
asks-in A before now start start_now m plan (Doing op) asks same is takes h =
    subst (λ u. MayDo now (A u) op) (sym is)
    (behind before now (SoFar (tree_now before start) m) (λ log. A start (log ++ op ∷ [])) h
    (λ old more told so_far. breaks (A start) (after_all old start) m plan op old more same asks (subst (λ b. SoFar (tree_now b start) m more) told so_far) (λ log carried. takes old told _ false log carried)))
asks-in A before now start start_now m plan (Sizing path) asks same is takes h = tt
asks-in A before now start start_now m plan Ending asks same is takes h = tt

pub may-ask : (A : Tree → List Op → Type 0) (before now : Option (List Op)) (start start_now : Tree) (m : Machine) (plan : Plan) → m.plan ≡ plan → start_now ≡ start
    → MayCarry before (A start) start plan → GoesOn before now (SoFar (tree_now before start) m) → MayAsk now (A start_now) (asked m)
may-ask A before now start start_now m plan same is takes h = asks-in A before now start start_now m plan (asked m) refl same is takes h

-- what a machine asks for may be done
pub may-do : (log : Option (List Op)) (allows : List Op → Type 0) (q : Question) (op : Op) → q ≡ Doing op → MayAsk log allows q → MayDo log allows op
may-do log allows q op e h = subst (MayAsk log allows) e h

-- ---- locks

-- both removals, one after the other
pub may-remove-lock : (log : Option (List Op)) (allows : List Op → Type 0) (path : List ℕ) → path ≡ lock_path → MayRelease log allows → MayDo log allows (Remove path)
may-remove-lock log allows path e h = λ l told. subst (λ p. allows (l ++ Remove p ∷ [])) (sym e) (h l told false (Remove lock_path ∷ []) (inr ([], refl, inl refl)))

removed-then : (lock : Bool) (c : List Op) → AreRemoved (Remove lock_path ∷ []) lock c → AreRemoved lock_removals false (c ++ Remove wlock_path ∷ [])
removed-then true c h = subst (λ l. AreRemoved lock_removals false (l ++ Remove wlock_path ∷ [])) (sym h) (inr (Remove wlock_path ∷ [], refl, inr ([], refl, refl)))
removed-then false c (inl h) = subst (λ l. AreRemoved lock_removals false (l ++ Remove wlock_path ∷ [])) (sym h) (inl (inr ([], refl, refl)))
removed-then false c (inr h) = subst (λ l. AreRemoved lock_removals false (l ++ Remove wlock_path ∷ [])) (sym (h.1 ∙ ap (λ l. Remove lock_path ∷ l) h.2)) (inr (Remove wlock_path ∷ [], refl, inr ([], refl, refl)))

pub may-remove-wlock : (A : Tree → List Op → Type 0) (before now : Option (List Op)) (start start_now : Tree) (path name : List ℕ) (lock : Bool) → path ≡ wlock_path → name ≡ lock_path → start_now ≡ start → MayRelease before (A start)
    → GoesOn before now (AreRemoved (Remove name ∷ []) lock) → MayDo now (A start_now) (Remove path)
may-remove-wlock A before now start start_now path name lock e n is takes h =
    subst (λ u. MayDo now (A u) (Remove path)) (sym is)
    (behind before now (AreRemoved (Remove name ∷ []) lock) (λ log. A start (log ++ Remove path ∷ [])) h
    (λ old c told removed. subst (λ p. A start ((old ++ c) ++ Remove p ∷ [])) (sym e)
    (subst (A start) (sym (append_assoc old c (Remove wlock_path ∷ []))) (takes old told false (c ++ Remove wlock_path ∷ []) (removed-then lock c (subst (λ p. AreRemoved (Remove p ∷ []) lock c) n removed))))))

-- the first lock
pub may-make-first : (log : Option (List Op)) (allows : List Op → Type 0) (start : Tree) (who path : List ℕ) → path ≡ wlock_path → MayLock who log allows start → MayCreate log allows start path who
may-make-first log allows start who path e h = λ l told none.
    subst (λ p. allows (l ++ Create p who ∷ [])) (sym e)
    (h l told (Err (record { why = Fault; swept = false })) (Create wlock_path who ∷ [])
    (barred-second who (after_all l start) Fault false (Create wlock_path who ∷ []) [] [] (subst (λ p. after_all l start p ≡ None) e none, done-whole (Create wlock_path who) (Create wlock_path who ∷ []) refl) (refl, tt) (inl refl)))

module _ (A : Tree → List Op → Type 0) (before now : Option (List Op)) (start start_now : Tree) (who wlock lock : List ℕ) (w : wlock ≡ wlock_path) (l : lock ≡ lock_path) (is : start_now ≡ start) (takes : MayLock who before (A start) start) where
  -- the second one, behind it
  pub may-make-second : GoesOn before now (Makes wlock who (tree_now before start) (Ok tt)) → MayCreate now (A start_now) start_now lock who
  may-make-second h =
      subst (λ u. MayCreate now (A u) u lock who) (sym is)
      (behind before now (Makes wlock who (tree_now before start) (Ok tt)) (λ log. after_all log start lock ≡ None → A start (log ++ Create lock who ∷ [])) h
      (λ old a told made none.
      let t = after_all old start in
      let first = named wlock wlock_path who t (Ok tt) a w (subst (λ b. Makes wlock who (tree_now b start) (Ok tt) a) told made) in
      let free = ap (λ (u : Tree). u lock_path) (sym (Rattle.hgs_machine.proofs.Trees.after_all-append old a start)) ∙ subst (λ p. after_all (old ++ a) start p ≡ None) l none in
      let second : Makes lock_path who (after_all a t) (Ok tt) (Create lock_path who ∷ []) = (free, done-whole (Create lock_path who) (Create lock_path who ∷ []) refl) in
      let taken = abandoned who t Fault false a (Create lock_path who ∷ []) [] [] first second (refl, tt) (inl (inl refl)) in
      subst (λ p. A start ((old ++ a) ++ Create p who ∷ [])) (sym l)
      (subst (A start) (sym (append_assoc old a (Create lock_path who ∷ []))) (takes old told (Err (record { why = Fault; swept = false })) (a ++ Create lock_path who ∷ []) taken))))

  -- the removal of the first, where the second could not be made
  pub may-remove-first : (why : LockRefusal) → GoesOn before now (Pair (λ t. Makes wlock who t (Ok tt)) (λ t. Makes lock who t (Err why)) (tree_now before start)) → MayDo now (A start_now) (Remove wlock)
  may-remove-first why h =
      subst (λ u. MayDo now (A u) (Remove wlock)) (sym is)
      (behind before now (Pair (λ t. Makes wlock who t (Ok tt)) (λ t. Makes lock who t (Err why)) (tree_now before start)) (λ log. A start (log ++ Remove wlock ∷ [])) h
      (λ old d told pair.
      let t = after_all old start in
      let p = subst (λ b. Pair (λ t. Makes wlock who t (Ok tt)) (λ t. Makes lock who t (Err why)) (tree_now b start) d) told pair in
      let first = named wlock wlock_path who t (Ok tt) p.0 w p.3 in
      let second = named lock lock_path who (after_all p.0 t) (Err why) p.1 l p.4 in
      let taken = barred-second who t why true p.0 p.1 (Remove wlock_path ∷ []) first second refl in
      subst (λ q. A start ((old ++ d) ++ Remove q ∷ [])) (sym w)
      (subst (A start) (ap (λ x. old ++ x) (sym (append_assoc p.0 p.1 (Remove wlock_path ∷ [])) ∙ ap (λ x. x ++ Remove wlock_path ∷ []) (sym p.2)) ∙ sym (append_assoc old d (Remove wlock_path ∷ [])))
      (takes old told (Err (record { why = why; swept = true })) (p.0 ++ (p.1 ++ Remove wlock_path ∷ [])) taken))))

  -- the removals of both, where a journal stands or could not be looked for
  pub may-release : (why : LockRefusal) → GoesOn before now (Pair (λ t. Makes wlock who t (Ok tt)) (Pair (λ t. Makes lock who t (Ok tt)) (λ t. Looks t (Err why))) (tree_now before start)) → MayRelease now (A start_now)
  may-release why h =
      subst (λ u. MayRelease now (A u)) (sym is)
      (behind before now (Pair (λ t. Makes wlock who t (Ok tt)) (Pair (λ t. Makes lock who t (Ok tt)) (λ t. Looks t (Err why))) (tree_now before start)) (λ log. (swept : Bool) (more : List Op) → AreRemoved lock_removals swept more → A start (log ++ more)) h
      (λ old d told pair swept more removed.
      let t = after_all old start in
      let p = subst (λ b. Pair (λ t. Makes wlock who t (Ok tt)) (Pair (λ t. Makes lock who t (Ok tt)) (λ t. Looks t (Err why))) (tree_now b start) d) told pair in
      let q = p.4 in
      let first = named wlock wlock_path who t (Ok tt) p.0 w p.3 in
      let second = named lock lock_path who (after_all p.0 t) (Ok tt) q.0 l q.3 in
      let taken = abandoned who t why swept p.0 q.0 q.1 more first second q.4 removed in
      let whole : p.0 ++ (q.0 ++ (q.1 ++ more)) ≡ d ++ more =
      ap (λ x. p.0 ++ x) (sym (append_assoc q.0 q.1 more) ∙ ap (λ x. x ++ more) (sym q.2)) ∙ (sym (append_assoc p.0 p.1 more) ∙ ap (λ x. x ++ more) (sym p.2)) in
      subst (A start) (ap (λ x. old ++ x) whole ∙ sym (append_assoc old d more)) (takes old told (Err (record { why = why; swept = swept })) (p.0 ++ (q.0 ++ (q.1 ++ more))) taken)))
