-- A phase command leaves phases that are at least their parents'.
use Rattle.std.proofs.Common.{◌≡◌, ◌⊎◌, ℕ, zero, suc, ◌+◌, ◌<◌, ◌≤◌, List, [], ◌∷◌, Bool, true, false, cond, length, refl, ◌∙◌, ap, inl, inr, arith}
use Rattle.std.specs.Prelude.{Option, Some, None, slice_get, slice_index, min, max}
use Rattle.hgs_index.specs.Revision.{Parents, ParentsBefore}
use Rattle.hgs_index.specs.Ancestor.{IsParent, itself, of_parent, is_ancestor}
use Rattle.hgs_index.specs.Theorems.AncestorLemmas.{IsAncestor-trans}
use Rattle.hgs_index.specs.Theorems.AncestorTestLemmas.{is_ancestor-decides}
use Rattle.hgs_model.specs.IsRepo.{phase_at, IsPhase}
use Rattle.hgs_model.specs.Step.{map_from, advanced, retracted}

index-map_from : (n : ℕ) (f : ℕ → ℕ → ℕ) (xs : List ℕ) (i k : ℕ) → i < length xs → k ≡ n + i → slice_index (map_from n f xs) i ≡ f k (slice_index xs i)
index-map_from n f [] i k lt e = absurd (omega arith)
index-map_from n f (x ∷ xs) zero k lt e = let same : n ≡ k = omega arith in ap (λ m. f m x) same
index-map_from n f (x ∷ xs) (suc i) k lt e = index-map_from (suc n) f xs i k (omega arith) (omega arith)

pub length-map_from : (n : ℕ) (f : ℕ → ℕ → ℕ) (xs : List ℕ) → length (map_from n f xs) ≡ length xs
length-map_from n f [] = refl
length-map_from n f (x ∷ xs) = ap suc (length-map_from (suc n) f xs)

bool : (b : Bool) → (b ≡ true) ⊎ (b ≡ false)
bool true = inl refl
bool false = inr refl

some-below : {A : Type 0} (xs : List A) (i : ℕ) (x : A) → slice_get xs i ≡ Some x → i < length xs
some-below [] i x e = absurd (nothing e)
  where
    nothing : None ≡ Some x → ⊥
    nothing h = cc
some-below (y ∷ xs) zero x e = omega arith
some-below (y ∷ xs) (suc i) x e = omega (arith, some-below xs i x e)

module _ (history : List Parents) (phases : List ℕ) (rev to : ℕ) (earlier : ParentsBefore 0 history) (count : length phases ≡ length history) (there : rev < length history) (most : to ≤ 2)
    (good : (b : ℕ) (p : Parents) → slice_get history b ≡ Some p → IsPhase phases p (slice_index phases b))
    (before : (b q : ℕ) → IsParent history q b → q < b) where
  parent-le : (b q : ℕ) → IsParent history q b → slice_index phases q ≤ slice_index phases b
  parent-le b q is =
      let ok = good b is.0 is.1 in
      elim is.2 [
        | inl e ↦ let f : phase_at phases is.0.0 ≡ slice_index phases q = ap (phase_at phases) e in omega (arith, ok.first, f)
        | inr e ↦ let f : phase_at phases is.0.1 ≡ slice_index phases q = ap (phase_at phases) e in omega (arith, ok.second, f)
      ]

  advanced-at : (b : ℕ) → b < length history → slice_index (advanced history rev to phases) b ≡ cond (is_ancestor history b rev) (min to (slice_index phases b)) (slice_index phases b)
  advanced-at b lt = index-map_from 0 _ phases b b (omega (arith, count)) (omega arith)

  retracted-at : (b : ℕ) → b < length history → slice_index (retracted history rev to phases) b ≡ cond (is_ancestor history rev b) (max to (slice_index phases b)) (slice_index phases b)
  retracted-at b lt = index-map_from 0 _ phases b b (omega (arith, count)) (omega arith)

  min-le : (b : Bool) (m n : ℕ) → cond b (min m n) n ≤ n
  min-le true m n = omega arith
  min-le false m n = omega arith

  max-le : (b : Bool) (m n : ℕ) → n ≤ cond b (max m n) n
  max-le true m n = omega arith
  max-le false m n = omega arith

  advanced-parent : (b q : ℕ) → b < length history → IsParent history q b → slice_index (advanced history rev to phases) q ≤ slice_index (advanced history rev to phases) b
  advanced-parent b q lt is = elim (bool (is_ancestor history b rev)) [
    | inl yes_it ↦
        let up : is_ancestor history q rev ≡ true = (is_ancestor-decides history earlier q rev there).1 (IsAncestor-trans history q b rev (of_parent is itself) ((is_ancestor-decides history earlier b rev there).0 yes_it)) in
        let mine : slice_index (advanced history rev to phases) b ≡ min to (slice_index phases b) = advanced-at b lt ∙ ap (λ z. cond z (min to (slice_index phases b)) (slice_index phases b)) yes_it in
        let its : slice_index (advanced history rev to phases) q ≡ min to (slice_index phases q) = advanced-at q (omega (arith, before b q is)) ∙ ap (λ z. cond z (min to (slice_index phases q)) (slice_index phases q)) up in
        omega (arith, mine, its, parent-le b q is)
    | inr not_it ↦
        let mine : slice_index (advanced history rev to phases) b ≡ slice_index phases b = advanced-at b lt ∙ ap (λ z. cond z (min to (slice_index phases b)) (slice_index phases b)) not_it in
        omega (arith, mine, advanced-at q (omega (arith, before b q is)), min-le (is_ancestor history q rev) to (slice_index phases q), parent-le b q is)
  ]

  retracted-parent : (b q : ℕ) → b < length history → IsParent history q b → slice_index (retracted history rev to phases) q ≤ slice_index (retracted history rev to phases) b
  retracted-parent b q lt is = elim (bool (is_ancestor history rev q)) [
    | inl yes_it ↦
        let in_range : q < length history = omega (arith, before b q is) in
        let down : is_ancestor history rev b ≡ true = (is_ancestor-decides history earlier rev b lt).1 (of_parent is ((is_ancestor-decides history earlier rev q in_range).0 yes_it)) in
        let mine : slice_index (retracted history rev to phases) b ≡ max to (slice_index phases b) = retracted-at b lt ∙ ap (λ z. cond z (max to (slice_index phases b)) (slice_index phases b)) down in
        let its : slice_index (retracted history rev to phases) q ≡ max to (slice_index phases q) = retracted-at q in_range ∙ ap (λ z. cond z (max to (slice_index phases q)) (slice_index phases q)) yes_it in
        omega (arith, mine, its, parent-le b q is)
    | inr not_it ↦
        let its : slice_index (retracted history rev to phases) q ≡ slice_index phases q = retracted-at q (omega (arith, before b q is)) ∙ ap (λ z. cond z (max to (slice_index phases q)) (slice_index phases q)) not_it in
        omega (arith, its, retracted-at b lt, max-le (is_ancestor history rev b) to (slice_index phases b), parent-le b q is)
  ]

  below-two : (b : Bool) (m n : ℕ) → m ≤ 2 → n ≤ 2 → cond b (max m n) n ≤ 2
  below-two true m n x y = omega arith
  below-two false m n x y = omega arith

  -- from each parent to the record of a phase
  as-phase : (new : List ℕ) → ((b q : ℕ) → b < length history → IsParent history q b → slice_index new q ≤ slice_index new b) → (b : ℕ) (p : Parents) → slice_get history b ≡ Some p → slice_index new b ≤ 2 → IsPhase new p (slice_index new b)
  as-phase new parent b p e le = record { most = le; first = one p.0 (λ q h. inl h); second = one p.1 (λ q h. inr h) }
    where
      one : (o : Option ℕ) → ((q : ℕ) → o ≡ Some q → (p.0 ≡ Some q) ⊎ (p.1 ≡ Some q)) → phase_at new o ≤ slice_index new b
      one None which = omega arith
      one (Some q) which = parent b q (some-below history b p e) (p, e, which q refl)

  -- the phases after a move to a lesser phase, and after one to a greater
  pub advanced-phases : (b : ℕ) (p : Parents) → slice_get history b ≡ Some p → IsPhase (advanced history rev to phases) p (slice_index (advanced history rev to phases) b)
  advanced-phases b p e = as-phase (advanced history rev to phases) advanced-parent b p e
      (omega (arith, advanced-at b (some-below history b p e), min-le (is_ancestor history b rev) to (slice_index phases b), (good b p e).most))

  pub retracted-phases : (b : ℕ) (p : Parents) → slice_get history b ≡ Some p → IsPhase (retracted history rev to phases) p (slice_index (retracted history rev to phases) b)
  retracted-phases b p e = as-phase (retracted history rev to phases) retracted-parent b p e
      (omega (arith, retracted-at b (some-below history b p e), below-two (is_ancestor history rev b) to (slice_index phases b) most (good b p e).most))
