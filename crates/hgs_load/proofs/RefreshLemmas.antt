-- Whether a history goes on from an older one, entry by entry.
use Rattle.std.proofs.Common.{◌≡◌, ℕ, zero, suc, ◌+◌, ◌≤◌, true, false, cond, List, [], ◌∷◌, length, drop, Option, Some, sym, ◌∙◌, ap, arith}
use Rattle.std.specs.Prelude.{slice_get}
use Rattle.std.proofs.lemmas.List.{drop_all}
use Rattle.hgs_index.specs.declared.entry.Entry.{Entry}
use Rattle.hgs_load.specs.Refresh.{same_entry, first_changed}

some_is : {A : Type 0} (x y : A) → Some x ≡ Some y → x ≡ y
some_is x y e = cc

drop_here : (entries : List Entry) (i : ℕ) (x : Entry) → slice_get entries i ≡ Some x → drop i entries ≡ x ∷ drop (suc i) entries
drop_here [] i x e = cc
drop_here (y ∷ entries) zero x e = ap (λ q. q ∷ entries) (some_is y x e)
drop_here (y ∷ entries) (suc i) x e = drop_here entries i x e

-- the new history is shorter
pub shorter : (rest more entries : List Entry) (o : Entry) (rev : ℕ) (all : Option ℕ) → rest ≡ o ∷ more → length entries ≤ rev → first_changed rev rest (drop rev entries) ≡ all → Some rev ≡ all
shorter rest more entries o rev all is past so = sym (ap (λ r. first_changed rev r (drop rev entries)) is ∙ ap (first_changed rev (o ∷ more)) (drop_all rev entries past)) ∙ so

module _ (rest more entries : List Entry) (rev : ℕ) (o e : Entry) (all : Option ℕ) (old : rest ≡ o ∷ more) (new : slice_get entries rev ≡ Some e) (so : first_changed rev rest (drop rev entries) ≡ all) where
  here : cond (same_entry o e) (first_changed (suc rev) more (drop (suc rev) entries)) (Some rev) ≡ all
  here = sym (ap (λ r. first_changed rev r (drop rev entries)) old ∙ ap (first_changed rev (o ∷ more)) (drop_here entries rev e new)) ∙ so

  pub changed : same_entry o e ≡ false → Some rev ≡ all
  changed f = sym (ap (λ b. cond b (first_changed (suc rev) more (drop (suc rev) entries)) (Some rev)) f) ∙ here

  pub unchanged : same_entry o e ≡ true → first_changed (rev + 1) more (drop (rev + 1) entries) ≡ all
  unchanged t =
      let next : rev + 1 ≡ suc rev = omega arith in
      ap (λ k. first_changed k more (drop k entries)) next
      ∙ sym (ap (λ b. cond b (first_changed (suc rev) more (drop (suc rev) entries)) (Some rev)) t) ∙ here
