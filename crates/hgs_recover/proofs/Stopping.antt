-- Stops in what was done of a list of operations, and in one list behind another.
use Rattle.std.proofs.Common.{◌≡◌, ◌⊎◌, List, [], ◌∷◌, ◌++◌, refl, sym, ◌∙◌, ap, subst, inl, inr}
use Rattle.hgs_files.specs.declared.op.Op.{Op}
use Rattle.hgs_files.specs.Log.{Does, IsDone, IsPiece}
use Rattle.hgs_files.specs.Stop.{IsStopped}

-- a piece of a piece is a piece
abbrev pub ArePieces : Type 0
ArePieces = (op piece part : Op) (left rest : List Op) → IsPiece op piece left → IsPiece piece part rest → (l : List Op) × IsPiece op part l

does-piece : ArePieces → (ops left rest : List Op) (piece part : Op) → Does ops piece left → IsPiece piece part rest → (l : List Op) × Does ops part l
does-piece pieces [] left rest piece part h k = elim h [ ]
does-piece pieces (op ∷ ops) left rest piece part h k = let p = pieces op piece part h.0 rest h.1 k in (p.0 ++ ops, (p.0, p.1, refl))

-- a stop in what was done of a list is some of that list, done in part
pub stopped-done : ArePieces → (ops log done left : List Op) → IsDone ops log left → IsStopped log done → (l : List Op) × IsDone ops done l
stopped-done pieces ops [] done left h e = (ops, subst (λ (l : List Op). IsDone ops l ops) (sym e) refl)
stopped-done pieces ops (op ∷ log) done left h (inl e) = (ops, subst (λ (l : List Op). IsDone ops l ops) (sym e) refl)
stopped-done pieces ops (op ∷ log) done left h (inr (inl s)) =
    let d = does-piece pieces ops h.0 s.1 op s.0 h.1 s.2 in
    (d.0, subst (λ (l : List Op). IsDone ops l d.0) (sym s.3) (d.0, d.1, refl))
stopped-done pieces ops (op ∷ log) done left h (inr (inr s)) =
    let more = stopped-done pieces h.0 log s.0 left h.2 s.1 in
    (more.0, subst (λ (l : List Op). IsDone ops l more.0) (sym s.2) (h.0, h.1, more.1))

-- a stop in two lists is one in the first, or the first and one in the second
pub stopped-split : (xs ys done : List Op) → IsStopped (xs ++ ys) done → IsStopped xs done ⊎ ((more : List Op) × IsStopped ys more × (done ≡ xs ++ more))
stopped-split [] ys done h = inr (done, h, refl)
stopped-split (x ∷ xs) ys done (inl e) = inl (inl e)
stopped-split (x ∷ xs) ys done (inr (inl s)) = inl (inr (inl s))
stopped-split (x ∷ xs) ys done (inr (inr (more, h, e))) = elim (stopped-split xs ys more h) [
  | inl s ↦ inl (inr (inr (more, s, e)))
  | inr (m, s, f) ↦ inr (m, s, e ∙ ap (λ (l : List Op). x ∷ l) f)
]

-- nothing stops nothing
pub stopped-none : (log done : List Op) → log ≡ [] → IsStopped log done → done ≡ []
stopped-none [] done e h = h
stopped-none (op ∷ log) done e h = absurd (let no : ⊥ = cc in no)
