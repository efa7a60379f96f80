-- Pieces of operations, one after another, and what calls leave of an operation.
use Rattle.std.proofs.Common.{◌≡◌, List, [], ◌∷◌, ◌++◌, refl, sym, ◌∙◌, ap, subst, append_assoc, append-nil}
use Rattle.hgs_files.specs.declared.op.Op.{Op}
use Rattle.hgs_files.specs.declared.op.Op.TheVariants.{Append, Cut, Rename, Remove, Create, Sync, Settle}
use Rattle.hgs_files.specs.Log.{Does, IsDone, IsPiece}
use Rattle.hgs_machine.specs.declared.machine.Reply.TheVariants.{Done, Failed, Memory}
use Rattle.hgs_machine.specs.SoFar.{Leaves}

-- what was done, and then some of what was left
pub done-append : (ops a mid b left : List Op) → IsDone ops a mid → IsDone mid b left → IsDone ops (a ++ b) left
done-append ops [] mid b left e d = subst (λ (l : List Op). IsDone l b left) (sym e) d
done-append ops (op ∷ a) mid b left h d = (h.0, h.1, done-append h.0 a mid b left h.2 d)

does-behind : (ops more left : List Op) (piece : Op) → Does ops piece left → Does (ops ++ more) piece (left ++ more)
does-behind [] more left piece h = elim h [ ]
does-behind (op ∷ ops) more left piece h = (h.0, h.1, ap (λ l. l ++ more) h.2 ∙ append_assoc h.0 ops more)

-- what is to do behind stays to do
pub done-behind : (ops more log left : List Op) → IsDone ops log left → IsDone (ops ++ more) log (left ++ more)
done-behind ops more [] left e = ap (λ l. l ++ more) e
done-behind ops more (op ∷ log) left h = (h.0 ++ more, does-behind ops more h.0 op h.1, done-behind h.0 more log left h.2)

piece-whole : (op : Op) → IsPiece op op []
piece-whole (Append path bytes) = (bytes, [], sym (append-nil bytes), refl, refl)
piece-whole (Create path bytes) = (bytes, [], sym (append-nil bytes), refl, refl)
piece-whole (Cut path len) = (refl, refl)
piece-whole (Rename from to) = (refl, refl)
piece-whole (Remove path) = (refl, refl)
piece-whole (Sync path) = (refl, refl)
piece-whole Settle = (refl, refl)

done-whole : (op : Op) (more : List Op) → more ≡ op ∷ [] → IsDone (op ∷ []) more []
done-whole op more e = subst (λ (l : List Op). IsDone (op ∷ []) l []) (sym e) ([], ([], piece-whole op, refl), refl)

pub done-none : (ops more : List Op) → more ≡ [] → IsDone ops more ops
done-none ops more e = subst (λ (l : List Op). IsDone ops l ops) (sym e) refl

-- ---- what calls leave

pub done-all : (op : Op) (more : List Op) → Leaves op Done more → IsDone (op ∷ []) more []
done-all (Append path bytes) more h = h
done-all (Create path bytes) more h = h
done-all (Cut path len) more h = done-whole (Cut path len) more h
done-all (Rename from to) more h = done-whole (Rename from to) more h
done-all (Remove path) more h = done-whole (Remove path) more h
done-all (Sync path) more h = done-whole (Sync path) more h
done-all Settle more h = done-whole Settle more h

none-done : (op : Op) (more : List Op) → more ≡ [] → (left : List Op) × IsDone (op ∷ []) more left
none-done op more e = (op ∷ [], done-none (op ∷ []) more e)

pub done-in-part : (op : Op) (more : List Op) → Leaves op Failed more → (left : List Op) × IsDone (op ∷ []) more left
done-in-part (Append path bytes) more h = h
done-in-part (Create path bytes) more h = h
done-in-part (Cut path len) more h = none-done (Cut path len) more h
done-in-part (Rename from to) more h = none-done (Rename from to) more h
done-in-part (Remove path) more h = none-done (Remove path) more h
done-in-part (Sync path) more h = none-done (Sync path) more h
done-in-part Settle more h = none-done Settle more h

-- where there was no memory nothing is done, as where it failed
pub denied-failed : (op : Op) (more : List Op) → Leaves op Memory more → Leaves op Failed more
denied-failed (Append path bytes) more h = none-done (Append path bytes) more h
denied-failed (Create path bytes) more h = none-done (Create path bytes) more h
denied-failed (Cut path len) more h = h
denied-failed (Rename from to) more h = h
denied-failed (Remove path) more h = h
denied-failed (Sync path) more h = h
denied-failed Settle more h = h
