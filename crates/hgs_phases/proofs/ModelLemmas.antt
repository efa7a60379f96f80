-- The moves of phases are those of the plain repository.
use Rattle.std.proofs.Common.{◌≡◌, ℕ, suc, ◌+◌, min, max, Bool, true, false, cond, List, [], ◌∷◌, ◌++◌, length, map, refl, sym, ◌∙◌, ap, append_assoc, length-append, arith}
use Rattle.std.specs.Prelude.{slice_index_or}
use Rattle.std.specs.List.{range_with_len}
use Rattle.hgs_index.specs.Ancestor.{is_ancestor}
use Rattle.hgs_index.specs.Revision.{Parents}
use Rattle.hgs_model.specs.declared.phase.Phase.{Phase}
use Rattle.hgs_model.specs.declared.phase.Phase.TheVariants.{Public, Draft, Secret}
use Rattle.hgs_model.specs.Phase.{phase_number, greater, lesser}
use Rattle.hgs_model.specs.Step.{map_from, advanced as model_advanced, retracted as model_retracted}
use Rattle.hgs_phases.specs.Moves.{advanced, retracted}

number-greater : (p q : Phase) → phase_number (greater p q) ≡ max (phase_number q) (phase_number p)
number-greater Public Public = refl
number-greater Public Draft = refl
number-greater Public Secret = refl
number-greater Draft Public = refl
number-greater Draft Draft = refl
number-greater Draft Secret = refl
number-greater Secret Public = refl
number-greater Secret Draft = refl
number-greater Secret Secret = refl

number-lesser : (p q : Phase) → phase_number (lesser p q) ≡ min (phase_number q) (phase_number p)
number-lesser Public Public = refl
number-lesser Public Draft = refl
number-lesser Public Secret = refl
number-lesser Draft Public = refl
number-lesser Draft Draft = refl
number-lesser Draft Secret = refl
number-lesser Secret Public = refl
number-lesser Secret Draft = refl
number-lesser Secret Secret = refl

raised-number : (b : Bool) (p to : Phase) → phase_number (cond b (greater p to) p) ≡ cond b (max (phase_number to) (phase_number p)) (phase_number p)
raised-number true p to = number-greater p to
raised-number false p to = refl

lowered-number : (b : Bool) (p to : Phase) → phase_number (cond b (lesser p to) p) ≡ cond b (min (phase_number to) (phase_number p)) (phase_number p)
lowered-number true p to = number-lesser p to
lowered-number false p to = refl

seam : (front : List Phase) (x : Phase) (xs : List Phase) → slice_index_or (front ++ x ∷ xs) (length front) Public ≡ x
seam [] x xs = refl
seam (y ∷ front) x xs = seam front x xs

-- what is made of each phase by its place is made of its number
module _ (f : ℕ → Phase → Phase) (g : ℕ → ℕ → ℕ) (each : (i : ℕ) (p : Phase) → phase_number (f i p) ≡ g i (phase_number p)) where
  abbrev numbers : List Phase → ℕ → ℕ → List ℕ
  numbers all k n = map phase_number (map (λ i. f i (slice_index_or all i Public)) (range_with_len k n))

  from : (front xs : List Phase) (k : ℕ) → k ≡ length front → numbers (front ++ xs) k (length xs) ≡ map_from k g (map phase_number xs)
  from front [] k e = refl
  from front (x ∷ xs) k e =
      let here : slice_index_or (front ++ x ∷ xs) k Public ≡ x = ap (λ n. slice_index_or (front ++ x ∷ xs) n Public) e ∙ seam front x xs in
      let size = length-append front (x ∷ []) in
      let next : k + 1 ≡ suc k = omega arith in
      ap (λ p. phase_number (f k p) ∷ numbers (front ++ x ∷ xs) (k + 1) (length xs)) here
      ∙ ap (λ n. n ∷ numbers (front ++ x ∷ xs) (k + 1) (length xs)) (each k x)
      ∙ ap (λ ns. g k (phase_number x) ∷ ns)
      (ap (λ l. numbers l (k + 1) (length xs)) (sym (append_assoc front (x ∷ []) xs)) ∙ from (front ++ x ∷ []) xs (k + 1) (omega (arith, e, size)) ∙ ap (λ m. map_from m g (map phase_number xs)) next)

pub advanced-model : (history : List Parents) (rev : ℕ) (to : Phase) (phases : List Phase) → map phase_number (advanced history rev to phases) ≡ model_advanced history rev (phase_number to) (map phase_number phases)
advanced-model history rev to phases =
    from (λ other p. cond (is_ancestor history other rev) (lesser p to) p) (λ other n. cond (is_ancestor history other rev) (min (phase_number to) n) n) (λ other p. lowered-number (is_ancestor history other rev) p to) [] phases 0 refl

pub retracted-model : (history : List Parents) (rev : ℕ) (to : Phase) (phases : List Phase) → map phase_number (retracted history rev to phases) ≡ model_retracted history rev (phase_number to) (map phase_number phases)
retracted-model history rev to phases =
    from (λ other p. cond (is_ancestor history rev other) (greater p to) p) (λ other n. cond (is_ancestor history rev other) (max (phase_number to) n) n) (λ other p. raised-number (is_ancestor history rev other) p to) [] phases 0 refl
