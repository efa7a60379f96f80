-- The locks of a writer that is refused publish nothing.
use Rattle.std.proofs.Common.{◌≡◌, ℕ, List, [], ◌∷◌, ◌++◌, Bool, true, false, refl, sym, ◌∙◌, ap, subst, arith, append_assoc, length}
use Rattle.hgs_files.specs.declared.op.Op.{Op}
use Rattle.hgs_files.specs.declared.op.Op.TheVariants.{Create, Remove}
use Rattle.hgs_files.specs.Log.{IsDone}
use Rattle.hgs_files.specs.Tree.{Tree}
use Rattle.hgs_legal.specs.LegalLog.{Idle, Turn}
use Rattle.hgs_legal.specs.Pieces.{Refusal, once, twice}
use Rattle.hgs_legal.specs.Pieces as legal
use Rattle.hgs_machine.specs.Course.{lock_removals}
use Rattle.hgs_machine.specs.Locks.{AreLocked, AreRemoved, IsTurnedAway, at_journal, at_lock, at_wlock}
use Rattle.hgs_machine.specs.declared.locks.LockRefusal.{LockRefusal}
use Rattle.hgs_model.specs.Repo.{Repo}
use Rattle.hgs_ops.specs.Operations.{lock_path, wlock_path}
use Rattle.std.specs.Prelude.{Option}
use Rattle.hgs_writer.specs.Turns.{LeadsOn}
use Rattle.hgs_writer.proofs.ListLemmas.{all-some, same-some, some-done}
use Rattle.hgs_writer.proofs.Runs.{at, nothing-leads, refusal-leads}

removed-some : (all : List Op) (swept : Bool) (log : List Op) → AreRemoved all swept log → legal.AreSome all log
removed-some all true log h = all-some all log h
removed-some all false log h = same-some all log h

made-once : (who : List ℕ) (swept : Bool) (a c : List Op) → IsDone (Create wlock_path who ∷ []) a [] → AreRemoved (Remove wlock_path ∷ []) swept c → Refusal (a ++ c)
made-once who swept a c d r =
    let s = some-done (Create wlock_path who ∷ []) a [] d (omega arith) in
    subst (λ k. Refusal (k ++ c)) (sym s.2) (once who c s.0 s.1 [] (subst (λ k. IsDone (Create wlock_path who ∷ []) k []) s.2 d) (removed-some (Remove wlock_path ∷ []) swept c r))

made-twice : (who : List ℕ) (swept : Bool) (a b c : List Op) → IsDone (Create wlock_path who ∷ []) a [] → IsDone (Create lock_path who ∷ []) b [] → AreRemoved lock_removals swept c → Refusal (a ++ b ++ c)
made-twice who swept a b c d e r =
    let s = some-done (Create wlock_path who ∷ []) a [] d (omega arith) in
    let u = some-done (Create lock_path who ∷ []) b [] e (omega arith) in
    subst (λ k. Refusal (k ++ b ++ c)) (sym s.2) (subst (λ k. Refusal ((s.0 ∷ s.1) ++ k ++ c)) (sym u.2)
    (twice who who c s.0 s.1 u.0 u.1 [] (subst (λ k. IsDone (Create wlock_path who ∷ []) k []) s.2 d) (subst (λ k. IsDone (Create lock_path who ∷ []) k []) u.2 e) (removed-some lock_removals swept c r)))

-- what was done of a list and one more is done of the list and then of the one
done-apart : (ops : List Op) (last : Op) (log : List Op) → IsDone (ops ++ last ∷ []) log [] → (a : List Op) × (b : List Op) × (log ≡ a ++ b) × IsDone ops a [] × IsDone (last ∷ []) b []
done-apart [] last log d = ([], log, refl, refl, d)
done-apart (op ∷ ops) last [] d = absurd (let none = ap (λ (l : List Op). length l) d in omega (arith, none))
done-apart (op ∷ ops) last (piece ∷ log) d =
    let does = d.1 in
    let same : d.0 ≡ (does.0 ++ ops) ++ last ∷ [] = does.2 ∙ sym (append_assoc does.0 ops (last ∷ [])) in
    let more = done-apart (does.0 ++ ops) last log (subst (λ l. IsDone l log []) same d.2) in
    (piece ∷ more.0, more.1, ap (λ l. piece ∷ l) more.2, (does.0 ++ ops, (does.0, does.1, refl), more.3), more.4)

module _ (t : Tree) (f : Repo) (so : List Turn) (left : Option (List Op)) (rest : List Op) where
  pub released : (who : List ℕ) (swept : Bool) (locking releasing : List Op) → AreLocked who t locking → AreRemoved lock_removals swept releasing → LeadsOn (at t f so (Idle left rest)) (locking ++ releasing) [] left
  released who swept locking releasing locked removed =
      let d = done-apart (Create wlock_path who ∷ []) (Create lock_path who) locking locked.made in
      subst (λ k. LeadsOn (at t f so (Idle left rest)) k [] left) (ap (λ k. k ++ releasing) (sym d.2)) (refusal-leads t f so left rest (d.0 ++ d.1 ++ releasing) (made-twice who swept d.0 d.1 releasing d.3 d.4 removed))

  pub turned-away : (who : List ℕ) (why : LockRefusal) (swept : Bool) (log : List Op) → IsTurnedAway who t why swept log → LeadsOn (at t f so (Idle left rest)) log [] left
  turned-away who why _ _ (at_wlock _ barred) = nothing-leads t f so left rest
  turned-away who why swept _ (at_lock _ _ a c free_wlock d barred removed) = refusal-leads t f so left rest (a ++ c) (made-once who swept a c d removed)
  turned-away who why swept _ (at_journal _ _ a b c free_wlock free_lock d e free removed) = refusal-leads t f so left rest (a ++ b ++ c) (made-twice who swept a b c d e removed)
