-- Pieces, one after another.
use Rattle.std.proofs.Common.{◌≡◌, ℕ, zero, suc, List, [], ◌∷◌, ◌++◌, drop, refl, sym, ◌∙◌, ap, subst, append_assoc, append-nil}
use Rattle.std.specs.Prelude.{Some, slice_get}
use Rattle.hgs_files.specs.declared.op.Op.{Op}
use Rattle.hgs_files.specs.declared.op.Op.TheVariants.{Append, Cut, Rename, Remove, Create, Sync, Settle}
use Rattle.hgs_files.specs.Log.{IsPiece, Does, IsDone}
use Rattle.hgs_machine.specs.declared.machine.Reply.TheVariants.{Done, Failed, Memory}
use Rattle.hgs_machine.specs.SoFar.{Leaves}
use Rattle.hgs_machine.proofs.Lists.{some-there}

-- what was done, and then some of what was left
pub done-append : (ops a mid b left : List Op) → IsDone ops a mid → IsDone mid b left → IsDone ops (a ++ b) left
done-append ops [] mid b left e d = subst (λ (l : List Op). IsDone l b left) (sym e) d
done-append ops (op ∷ a) mid b left h d = (h.0, h.1, done-append h.0 a mid b left h.2 d)

does-behind : (ops more left : List Op) (piece : Op) → Does ops piece left → Does (ops ++ more) piece (left ++ more)
does-behind [] more left piece h = elim h [ ]
does-behind (op ∷ ops) more left piece h = (h.0, h.1, ap (λ l. l ++ more) h.2 ∙ append_assoc h.0 ops more)

-- what is to do behind stays to do
pub done-behind : (ops more log left : List Op) → IsDone ops log left → IsDone (ops ++ more) log (left ++ more)
done-behind ops more [] left e = ap (λ l. l ++ more) e
done-behind ops more (op ∷ log) left h = (h.0 ++ more, does-behind ops more h.0 op h.1, done-behind h.0 more log left h.2)

-- all of a list was done, and then of the next
pub done-both : (ops log next more left : List Op) → IsDone ops log [] → IsDone next more left → IsDone (ops ++ next) (log ++ more) left
done-both ops log next more left h k = done-append (ops ++ next) log next more left (done-behind ops next log [] h) k

piece-whole : (op : Op) → IsPiece op op []
piece-whole (Append path bytes) = (bytes, [], sym (append-nil bytes), refl, refl)
piece-whole (Create path bytes) = (bytes, [], sym (append-nil bytes), refl, refl)
piece-whole (Cut path len) = (refl, refl)
piece-whole (Rename from to) = (refl, refl)
piece-whole (Remove path) = (refl, refl)
piece-whole (Sync path) = (refl, refl)
piece-whole Settle = (refl, refl)

pub done-whole : (op : Op) (more : List Op) → more ≡ op ∷ [] → IsDone (op ∷ []) more []
done-whole op more e = subst (λ (l : List Op). IsDone (op ∷ []) l []) (sym e) ([], ([], piece-whole op, refl), refl)

pub done-none : (ops more : List Op) → more ≡ [] → IsDone ops more ops
done-none ops more e = subst (λ (l : List Op). IsDone ops l ops) (sym e) refl

-- ---- what replies say

pub done-all : (op : Op) (more : List Op) → Leaves op Done more → IsDone (op ∷ []) more []
done-all (Append path bytes) more h = h
done-all (Create path bytes) more h = h
done-all (Cut path len) more h = done-whole (Cut path len) more h
done-all (Rename from to) more h = done-whole (Rename from to) more h
done-all (Remove path) more h = done-whole (Remove path) more h
done-all (Sync path) more h = done-whole (Sync path) more h
done-all Settle more h = done-whole Settle more h

pub done-in-part : (op : Op) (more : List Op) → Leaves op Failed more → (left : List Op) × IsDone (op ∷ []) more left
done-in-part (Append path bytes) more h = h
done-in-part (Create path bytes) more h = h
done-in-part (Cut path len) more h = (Cut path len ∷ [], done-none (Cut path len ∷ []) more h)
done-in-part (Rename from to) more h = (Rename from to ∷ [], done-none (Rename from to ∷ []) more h)
done-in-part (Remove path) more h = (Remove path ∷ [], done-none (Remove path ∷ []) more h)
done-in-part (Sync path) more h = (Sync path ∷ [], done-none (Sync path ∷ []) more h)
done-in-part Settle more h = (Settle ∷ [], done-none (Settle ∷ []) more h)

pub none-done : (op : Op) (more : List Op) → Leaves op Memory more → more ≡ []
none-done (Append path bytes) more h = h
none-done (Create path bytes) more h = h
none-done (Cut path len) more h = h
none-done (Rename from to) more h = h
none-done (Remove path) more h = h
none-done (Sync path) more h = h
none-done Settle more h = h

-- something is left of a list, behind what is left of an operation
pub some-behind : (left front behind : List Op) (o : Op) → (op : Op) × (rest : List Op) × (left ++ (front ++ o ∷ behind) ≡ op ∷ rest)
some-behind left front behind o =
    let some = some-there (left ++ front) behind o in
    (some.0, some.1, sym (append_assoc left front (o ∷ behind)) ∙ some.2)

-- in a list that ends with a removal, of which an operation was refused, something is left
pub left-before-end : (front : List Op) (path : List ℕ) (k : ℕ) (op : Op) (more : List Op) → slice_get (front ++ Remove path ∷ []) k ≡ Some op → Leaves op Failed more
    → (o : Op) × (rest : List Op) × IsDone (drop k (front ++ Remove path ∷ [])) more (o ∷ rest)
left-before-end [] path zero op more e h = (Remove path, [], done-none (Remove path ∷ []) more (subst (λ (o : Op). Leaves o Failed more) (let same : op ≡ Remove path = cc in same) h))
left-before-end [] path (suc k) op more e h = absurd (let no : ⊥ = cc in no)
left-before-end (x ∷ front) path zero op more e h =
    let part = done-in-part x more (subst (λ (o : Op). Leaves o Failed more) (let same : op ≡ x = cc in same) h) in
    let some = some-behind part.0 front [] (Remove path) in
    (some.0, some.1, subst (λ (l : List Op). IsDone (x ∷ front ++ Remove path ∷ []) more l) some.2 (done-behind (x ∷ []) (front ++ Remove path ∷ []) more part.0 part.1))
left-before-end (x ∷ front) path (suc k) op more e h = left-before-end front path k op more e h

-- where there was no memory nothing is done, as where it failed
pub denied-failed : (op : Op) (more : List Op) → Leaves op Memory more → Leaves op Failed more
denied-failed (Append path bytes) more h = (Append path bytes ∷ [], done-none (Append path bytes ∷ []) more h)
denied-failed (Create path bytes) more h = (Create path bytes ∷ [], done-none (Create path bytes ∷ []) more h)
denied-failed (Cut path len) more h = h
denied-failed (Rename from to) more h = h
denied-failed (Remove path) more h = h
denied-failed (Sync path) more h = h
denied-failed Settle more h = h
