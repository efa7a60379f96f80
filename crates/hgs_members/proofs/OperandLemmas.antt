-- One changeset, or none, and marks.
use Rattle.std.proofs.Common.{◌≡◌, ◌⊎◌, ◌<◌, ℕ, zero, suc, Bool, true, false, ◌&&◌, List, length, refl, sym, ◌∙◌, ap, subst, inl, inr, arith}
use Rattle.std.specs.Prelude.{◌||◌, slice_index_or, slice_set, replicate, if◌then◌else◌}
use Rattle.std.proofs.lemmas.List.{get_or-set_same, get_or-set_other, length-set}
use Rattle.hgs_phases.specs.Theorems.PhaseLemmas.{or-right}
use Rattle.hgs_members.specs.Members.{marks_in, one_mark, AreBoth, AreEither}
use Rattle.hgs_members.specs.declared.operand.Operand.TheVariants.{Empty, One}
use Rattle.hgs_members.specs.Passes.{IsMarked}
use Rattle.hgs_members.proofs.PassLemmas.{mark-low, false_is_not}

pub length-replicated : (n : ℕ) (b : Bool) → length (replicate n b) ≡ n
length-replicated zero b = refl
length-replicated (suc n) b = ap suc (length-replicated n b)

pub unmarked-none : (n i : ℕ) → IsMarked (replicate n false) i → ⊥
unmarked-none zero i h = false_is_not h
unmarked-none (suc n) zero h = false_is_not h
unmarked-none (suc n) (suc i) h = unmarked-none n i h

pub one-length : (count rev : ℕ) → length (one_mark count rev) ≡ count
one-length count rev = length-set (replicate count false) rev true ∙ length-replicated count false

pub same-or-not : (i j : ℕ) → (i ≡ j) ⊎ (i ≡ j → ⊥)
same-or-not zero zero = inl refl
same-or-not zero (suc j) = inr (λ e. absurd (omega (arith, e)))
same-or-not (suc i) zero = inr (λ e. absurd (omega (arith, e)))
same-or-not (suc i) (suc j) = elim (same-or-not i j) [ inl e ↦ inl (ap suc e) | inr n ↦ inr (λ e. n (omega (arith, e))) ]

pub one-marked : (count rev i : ℕ) → IsMarked (one_mark count rev) i → i ≡ rev
one-marked count rev i h = elim (same-or-not i rev) [
  | inl e ↦ e
  | inr n ↦ absurd (unmarked-none count i (sym (get_or-set_other (replicate count false) rev i true false n) ∙ h))
]

pub marked-one : (count rev : ℕ) → rev < count → IsMarked (one_mark count rev) rev
marked-one count rev lt = get_or-set_same (replicate count false) rev true false (let n = length-replicated count false in omega (arith, lt, n))

-- one changeset more
pub added_either : (left : List Bool) (count rev : ℕ) → length left ≡ count → AreEither left (one_mark count rev) (slice_set left rev true)
added_either left count rev same = record {
  count = length-set left rev true;
  each = λ i lt. elim (same-or-not i rev) [
    | inl e ↦ (
        let here : rev < length left = omega (arith, lt, e) in
        let both : IsMarked (one_mark count rev) i = subst (λ k. IsMarked (one_mark count rev) k) (sym e) (marked-one count rev (omega (arith, here, same))) in
        ap (λ k. slice_index_or (slice_set left rev true) k false) e ∙ get_or-set_same left rev true false here ∙ sym (or-right (slice_index_or left i false) (slice_index_or (one_mark count rev) i false) both)
        )
    | inr n ↦ get_or-set_other left rev i true false n ∙ sym (or-none (slice_index_or left i false) (slice_index_or (one_mark count rev) i false) (λ h. n (one-marked count rev i h)))
  ];
}
  where
    or-none : (a b : Bool) → (b ≡ true → ⊥) → (a || b) ≡ a
    or-none true b h = refl
    or-none false true h = absurd (h refl)
    or-none false false h = refl

-- a changeset that marks have, or none
pub one_both : (left : List Bool) (count rev : ℕ) → length left ≡ length (one_mark count rev) → AreBoth left (one_mark count rev) (marks_in count (if slice_index_or left rev false then One rev else Empty))
one_both left count rev same = by (slice_index_or left rev false) refl
  where
    right-none : (a b : Bool) → (b ≡ true → ⊥) → (a && b) ≡ false
    right-none true true h = absurd (h refl)
    right-none true false h = refl
    right-none false b h = refl

    unmarked : (marks : List Bool) (i : ℕ) → (IsMarked marks i → ⊥) → slice_index_or marks i false ≡ false
    unmarked marks i h = at (slice_index_or marks i false) refl
      where
        at : (t : Bool) → slice_index_or marks i false ≡ t → slice_index_or marks i false ≡ false
        at true e = absurd (h e)
        at false e = e

    by : (t : Bool) → slice_index_or left rev false ≡ t → AreBoth left (one_mark count rev) (marks_in count (if t then One rev else Empty))
    by true is = record {
      count = sym same;
      each = λ i lt. elim (same-or-not i rev) [
        | inl e ↦ (
            let mark : IsMarked (one_mark count rev) i = subst (λ k. IsMarked (one_mark count rev) k) (sym e) (marked-one count rev (let m = mark-low left rev is in let n = one-length count rev in omega (arith, m, n, same))) in
            mark ∙ sym (ap (λ b. b && slice_index_or (one_mark count rev) i false) (ap (λ k. slice_index_or left k false) e ∙ is) ∙ mark)
            )
        | inr n ↦ unmarked (one_mark count rev) i (λ h. n (one-marked count rev i h)) ∙ sym (right-none (slice_index_or left i false) (slice_index_or (one_mark count rev) i false) (λ h. n (one-marked count rev i h)))
      ];
    }
    by false is = record {
      count = length-replicated count false ∙ sym (one-length count rev) ∙ sym same;
      each = λ i lt. unmarked (replicate count false) i (unmarked-none count i) ∙ elim (same-or-not i rev) [
        | inl e ↦ sym (ap (λ b. b && slice_index_or (one_mark count rev) i false) (ap (λ k. slice_index_or left k false) e ∙ is))
        | inr n ↦ sym (right-none (slice_index_or left i false) (slice_index_or (one_mark count rev) i false) (λ h. n (one-marked count rev i h)))
      ];
    }
