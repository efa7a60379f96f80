-- A number's digits name the changeset with that number.
use Rattle.std.proofs.Common.{◌≡◌, ℕ, ◌<◌, ◌^◌, List, Bool, true, false, cond, length, get_or, ◌∙◌, ap, subst, inl, inr, arith}
use Rattle.std.specs.Prelude.{Some, None, codes, decimal, nat_lt}
use Rattle.std.specs.List.{position_or_len, range_with_len}
use Rattle.std.specs.Str.Parse.{AllDigits}
use Rattle.std.proofs.lemmas.Bool.Decides.{nat_tests}
use Rattle.std.proofs.lemmas.List.FromFn.{get_or-range_with_len, length-range_with_len}
use Rattle.std.proofs.lemmas.List.Sums.{position_or_len_is}
use Rattle.std.proofs.lemmas.Fmt.{decimal_injective, decimal_is_IsNumeral}
use Rattle.hgs_bytes.specs.Bytes.{same}
use Rattle.hgs_bytes.specs.Theorems.ByteLemmas.{same-refl, same-eq}
use Rattle.hgs_model.specs.History.{first_of, changeset_nodes}
use Rattle.hgs_model.specs.Names.{named, number_named, node_named, bookmark_named, last_of}
use Rattle.hgs_model.specs.Repo.{Repo}
use Rattle.hgs_model.specs.Theorems.ListLemmas.{bool}

other-word : (n : ℕ) (word : List ℕ) → n < 2 ^ 64 → (AllDigits 10 word → ⊥) → same (decimal n) word ≡ false
other-word n word lt digits = elim (bool (same (decimal n) word)) [
  | inl e ↦ absurd (digits (subst (AllDigits 10) (same-eq (decimal n) word e) (decimal_is_IsNumeral n lt).0.1))
  | inr e ↦ e
]

other-number : (m n : ℕ) → m < 2 ^ 64 → n < 2 ^ 64 → m < n → same (decimal m) (decimal n) ≡ false
other-number m n a b lt = elim (bool (same (decimal m) (decimal n))) [
  | inl e ↦ let here = decimal_injective m n a b (same-eq (decimal m) (decimal n) e) in absurd (omega (arith, here))
  | inr e ↦ e
]

pub number-named : (count rev : ℕ) → rev < count → rev < 2 ^ 64 → number_named count (decimal rev) ≡ Some rev
number-named count rev lt small =
    ap (λ at. cond (nat_lt at (length (range_with_len 0 count))) (Some at) None) first
    ∙ ap (λ n. cond (nat_lt rev n) (Some rev) None) (length-range_with_len 0 count)
    ∙ ap (λ b. cond b (Some rev) None) below
  where
    at : (k : ℕ) → k < count → get_or (range_with_len 0 count) k 0 ≡ k
    at k l = get_or-range_with_len 0 count k 0 l ∙ omega arith

    first : position_or_len (λ n. same (decimal n) (decimal rev)) (range_with_len 0 count) ≡ rev
    first = position_or_len_is (λ n. same (decimal n) (decimal rev)) (range_with_len 0 count) rev 0 (omega (arith, length-range_with_len 0 count))
        (λ k l. ap (λ n. same (decimal n) (decimal rev)) (at k (omega arith)) ∙ other-number k rev (omega arith) small l)
        (λ l. ap (λ n. same (decimal n) (decimal rev)) (at rev lt) ∙ same-refl (decimal rev))

    below : nat_lt rev count ≡ true
    below = grind (arith, nat_tests)

pub named-number : (r : Repo) (rev : ℕ) → rev < length r.changesets → rev < 2 ^ 64 → named r (decimal rev) ≡ Some rev
named-number r rev lt small =
    by (same (decimal rev) (codes "null")) (same (decimal rev) (codes ".")) (same (decimal rev) (codes "tip"))
    (other-word rev (codes "null") small (λ d. let low = d.0 in omega (arith, low))) (other-word rev (codes ".") small (λ d. let low = d.0 in omega (arith, low))) (other-word rev (codes "tip") small (λ d. let low = d.0 in omega (arith, low)))
  where
    by : (a b c : Bool) → a ≡ false → b ≡ false → c ≡ false →
        cond a None (cond b r.working.0 (cond c (last_of (length r.changesets)) (first_of (number_named (length r.changesets) (decimal rev)) (first_of (node_named (changeset_nodes r.changesets) (decimal rev)) (bookmark_named r.bookmarks (decimal rev)))))) ≡ Some rev
    by a b c x y z =
        ap (λ w. cond w None (cond b r.working.0 (cond c (last_of (length r.changesets)) (first_of (number_named (length r.changesets) (decimal rev)) (first_of (node_named (changeset_nodes r.changesets) (decimal rev)) (bookmark_named r.bookmarks (decimal rev))))))) x
        ∙ ap (λ w. cond w r.working.0 (cond c (last_of (length r.changesets)) (first_of (number_named (length r.changesets) (decimal rev)) (first_of (node_named (changeset_nodes r.changesets) (decimal rev)) (bookmark_named r.bookmarks (decimal rev)))))) y
        ∙ ap (λ w. cond w (last_of (length r.changesets)) (first_of (number_named (length r.changesets) (decimal rev)) (first_of (node_named (changeset_nodes r.changesets) (decimal rev)) (bookmark_named r.bookmarks (decimal rev))))) z
        ∙ ap (λ o. first_of o (first_of (node_named (changeset_nodes r.changesets) (decimal rev)) (bookmark_named r.bookmarks (decimal rev)))) (number-named (length r.changesets) rev lt small)
