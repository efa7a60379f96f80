-- Runs that are joined, and the states behind their fronts.
use Rattle.std.proofs.Common.{◌≡◌, List, [], ◌∷◌, ◌++◌, refl, sym, ap, subst}
use Rattle.std.proofs.Math.Path.{path_j, subst_refl}
use Rattle.hgs_files.specs.declared.op.Op.{Op}
use Rattle.hgs_headline.specs.WritersLog.{state_behind}
use Rattle.hgs_legal.specs.LegalLog.{Run, State}

abbrev pub join : (s m s' : State) (xs ys : List Op) → Run s xs m → Run m ys s' → Run s (xs ++ ys) s'
join s m s' [] ys h k = subst (λ (a : State). Run a ys s') (sym h) k
join s m s' (o ∷ xs) ys h k = (h.0, h.1, join h.0 m s' xs ys h.2 k)

-- a run from the same state under another name
carried : (m s s' : State) (ys zs : List Op) (e : m ≡ s) (k : Run m ys s') → state_behind s ys s' (subst (λ (a : State). Run a ys s') e k) zs ≡ state_behind m ys s' k zs
carried m s s' ys zs e k =
    path_j (λ (t : State) (p : m ≡ t). state_behind t ys s' (subst (λ (a : State). Run a ys s') p k) zs ≡ state_behind m ys s' k zs)
    (ap (λ (run : Run m ys s'). state_behind m ys s' run zs) (subst_refl (λ (a : State). Run a ys s') k)) e

-- behind the first run, and a front of the second
pub behind-join : (s m s' : State) (xs ys zs : List Op) (h : Run s xs m) (k : Run m ys s') → state_behind s (xs ++ ys) s' (join s m s' xs ys h k) (xs ++ zs) ≡ state_behind m ys s' k zs
behind-join s m s' [] ys zs h k = carried m s s' ys zs (sym h) k
behind-join s m s' (o ∷ xs) ys zs h k = behind-join h.0 m s' xs ys zs h.2 k

-- behind nothing
pub begins : (s : State) (log : List Op) (s' : State) (run : Run s log s') → state_behind s log s' run [] ≡ s
begins s [] s' run = refl
begins s (op ∷ log) s' run = refl
