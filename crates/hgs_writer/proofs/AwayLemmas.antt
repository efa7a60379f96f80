-- What a writer does that did not get the locks leaves each other file alone, wherever it is stopped.
use Rattle.std.proofs.Common.{◌≡◌, ℕ, Bool, true, false, List, [], ◌∷◌, ◌++◌, refl, sym, ◌∙◌, subst, inl, inr}
use Rattle.std.specs.List.{AllByRecursion}
use Rattle.hgs_files.specs.declared.op.Op.{Op}
use Rattle.hgs_files.specs.declared.op.Op.TheVariants.{Append, Create, Cut, Remove, Rename, Settle, Sync}
use Rattle.hgs_files.specs.Log.{Does, IsDone, IsPiece, append_of_rest}
use Rattle.hgs_files.specs.Stop.{IsStopped}
use Rattle.hgs_files.specs.Theorems.LogLemmas.{stopped-done}
use Rattle.hgs_files.specs.Theorems.TreeLemmas.{apply-other}
use Rattle.hgs_files.specs.Tree.{Tree, after_all, apply, same_path, touches}
use Rattle.hgs_index.specs.Theorems.RevlogLemmas.{all-append}
use Rattle.hgs_machine.specs.Course.{AreSome, lock_removals}
use Rattle.hgs_machine.specs.Locks.{AreRemoved, IsTurnedAway, at_journal, at_lock, at_wlock}
use Rattle.hgs_machine.specs.declared.locks.LockRefusal.{LockRefusal}
use Rattle.hgs_ops.specs.Operations.{lock_path, wlock_path}

module _ (path : List ℕ) where
  abbrev IsAway : Op → Type 0
  IsAway op = touches op path ≡ false

  abbrev AreAway : List Op → Type 0
  AreAway log = AllByRecursion IsAway log

  rest-away : (p bytes : List ℕ) → same_path p path ≡ false → AreAway (append_of_rest p bytes)
  rest-away p [] e = tt
  rest-away p (b ∷ bytes) e = (e, tt)

  part-away : (op piece : Op) (left : List Op) → IsPiece op piece left → IsAway op → IsAway piece × AreAway left
  part-away (Append p bytes) piece left (front, back, whole, is, rest) e = (subst IsAway (sym is) e, subst AreAway (sym rest) (rest-away p back e))
  part-away (Create p bytes) piece left (front, back, whole, is, rest) e = (subst IsAway (sym is) e, subst AreAway (sym rest) (rest-away p back e))
  part-away (Cut p len) piece left (is, none) e = (subst IsAway (sym is) e, subst AreAway (sym none) tt)
  part-away (Rename from to) piece left (is, none) e = (subst IsAway (sym is) e, subst AreAway (sym none) tt)
  part-away (Remove p) piece left (is, none) e = (subst IsAway (sym is) e, subst AreAway (sym none) tt)
  part-away (Sync p) piece left (is, none) e = (subst IsAway (sym is) e, subst AreAway (sym none) tt)
  part-away Settle piece left (is, none) e = (subst IsAway (sym is) e, subst AreAway (sym none) tt)

  does-away : (ops left : List Op) (piece : Op) → Does ops piece left → AreAway ops → IsAway piece × AreAway left
  does-away [] left piece h all = absurd h
  does-away (op ∷ ops) left piece (rest, is, whole) all =
      let one = part-away op piece rest is all.0 in
      (one.0, subst AreAway (sym whole) (all-append IsAway rest ops one.1 all.1))

  done-away : (ops log left : List Op) → IsDone ops log left → AreAway ops → AreAway log
  done-away ops [] left h all = tt
  done-away ops (op ∷ log) left h all =
      let one = does-away ops h.0 op h.1 all in
      (one.0, done-away h.0 log left h.2 one.1)

  some-away : (removals log : List Op) → AreSome removals log → AreAway removals → AreAway log
  some-away [] log h all = subst AreAway (sym h) tt
  some-away (op ∷ removals) log (inl h) all = some-away removals log h all.1
  some-away (op ∷ removals) log (inr h) all = subst AreAway (sym h.1) (all.0, some-away removals h.0 h.2 all.1)

  removed-away : (removals log : List Op) (swept : Bool) → AreRemoved removals swept log → AreAway removals → AreAway log
  removed-away removals log true h all = subst AreAway (sym h) all
  removed-away removals log false h all = some-away removals log h all

  log-away : (t : Tree) (log : List Op) → AreAway log → after_all log t path ≡ t path
  log-away t [] h = refl
  log-away t (op ∷ log) h = log-away (apply op t) log h.1 ∙ apply-other op t path h.0

  turned-away : (t : Tree) (who : List ℕ) (why : LockRefusal) (swept : Bool) (log : List Op) → IsTurnedAway who t why swept log → same_path wlock_path path ≡ false → same_path lock_path path ≡ false → AreAway log
  turned-away t who why _ _ (at_wlock _ barred) w l = tt
  turned-away t who why swept _ (at_lock _ _ a c free d barred removed) w l =
      all-append IsAway a c (done-away (Create wlock_path who ∷ []) a [] d (w, tt)) (removed-away (Remove wlock_path ∷ []) c swept removed (w, tt))
  turned-away t who why swept _ (at_journal _ _ a b c free_wlock free_lock d f free removed) w l =
      all-append IsAway (a ++ b) c
      (all-append IsAway a b (done-away (Create wlock_path who ∷ []) a [] d (w, tt)) (done-away (Create lock_path who ∷ []) b [] f (l, tt)))
      (removed-away lock_removals c swept removed (l, (w, tt)))

pub turned-away-others : (t : Tree) (who : List ℕ) (why : LockRefusal) (swept : Bool) (log d : List Op) → IsTurnedAway who t why swept log → IsStopped log d → (path : List ℕ) → same_path wlock_path path ≡ false → same_path lock_path path ≡ false → after_all d t path ≡ t path
turned-away-others t who why swept log d away stop path w l =
    let part = stopped-done log d stop in
    log-away path t d (done-away path log d part.0 part.1 (turned-away path t who why swept log away w l))
