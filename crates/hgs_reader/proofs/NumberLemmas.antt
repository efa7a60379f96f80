-- Numbers as names of revisions.
use Rattle.std.proofs.Common.{◌≡◌, ℕ, ◌<◌, ◌^◌, List, Bool, true, false, get_or, Option, Some, None, refl, sym, ◌∙◌, ap, subst, arith}
use Rattle.std.specs.Prelude.{decimal, nat_lt, ◌&&◌}
use Rattle.std.specs.List.{range_with_len}
use Rattle.std.proofs.lemmas.Bool.Decides.{nat_tests}
use Rattle.std.proofs.lemmas.List.FromFn.{get_or-range_with_len, length-range_with_len}
use Rattle.std.proofs.lemmas.List.Quantifiers.{position-Some}
use Rattle.hgs_bytes.specs.Bytes.{same}
use Rattle.hgs_bytes.specs.Theorems.ByteLemmas.{same-eq, same-refl}
use Rattle.hgs_model.specs.Names.{number_named}
use Rattle.hgs_model.specs.Theorems.NameLemmas.{number-named}

both_true : (a b : Bool) → (a && b) ≡ true → (a ≡ true) × (b ≡ true)
both_true true b e = (refl, e)
both_true false b e = cc

below : (n count : ℕ) → nat_lt n count ≡ true → n < count
below n count h = grind (arith, nat_tests, h)

is_below : (n count : ℕ) → n < count → nat_lt n count ≡ true
is_below n count h = grind (arith, nat_tests, h)

-- the name is how the number is written
pub number_found : (count n : ℕ) (name : List ℕ) → count < 2 ^ 32 → (nat_lt n count && same (decimal n) name) ≡ true → number_named count name ≡ Some n
number_found count n name fits e =
    let b = both_true (nat_lt n count) (same (decimal n) name) e in
    let P : List ℕ → Type 0 = λ t. number_named count t ≡ Some n in
    let few = below n count b.0 in
    subst P (same-eq (decimal n) name b.1) (number-named count n few (omega (arith, few, fits)))

-- no number below the count is written so
pub number_missing : (count : ℕ) (name : List ℕ) → ((n : ℕ) → n < count → name ≡ decimal n → ⊥) → number_named count name ≡ None
number_missing count name none = by (number_named count name) refl
  where
    by : (o : Option ℕ) → number_named count name ≡ o → number_named count name ≡ None
    by None e = e
    by (Some n) e =
        let first = position-Some (λ k. same (decimal k) name) (range_with_len 0 count) n 0 e in
        let all = length-range_with_len 0 count in
        let lt = first.0 in
        let few : n < count = omega (arith, lt, all) in
        let at : get_or (range_with_len 0 count) n 0 ≡ n = get_or-range_with_len 0 count n 0 few ∙ omega arith in
        absurd (none n few (sym (same-eq (decimal n) name (ap (λ k. same (decimal k) name) (sym at) ∙ first.1))))

some_is : (m n : ℕ) → (let o : Option ℕ = Some m in o) ≡ Some n → m ≡ n
some_is m n e = cc

no_some : (n : ℕ) → (let o : Option ℕ = None in o) ≡ Some n → ⊥
no_some n e = cc

-- what the digits are is not how it is written, or is not below the count
pub other_number : (count m : ℕ) (name : List ℕ) → count < 2 ^ 32 → ((n : ℕ) → n < 2 ^ 32 → name ≡ decimal n → (let o : Option ℕ = Some m in o) ≡ Some n) → (nat_lt m count && same (decimal m) name) ≡ false → number_named count name ≡ None
other_number count m name fits only e = number_missing count name (λ n few is.
    let here : m ≡ n = some_is m n (only n (omega (arith, few, fits)) is) in
    let P : ℕ → Type 0 = λ k. (nat_lt k count && same (decimal k) name) ≡ false in
    let Q : List ℕ → Type 0 = λ t. (nat_lt n count && same (decimal n) t) ≡ false in
    contradiction (nat_lt n count) (same (decimal n) (decimal n)) (is_below n count few) (same-refl (decimal n)) (subst Q is (subst P here e)))
  where
    contradiction : (a b : Bool) → a ≡ true → b ≡ true → (a && b) ≡ false → ⊥
    contradiction true true x y z = cc
    contradiction true false x y z = cc
    contradiction false b x y z = cc

pub no_number : (count : ℕ) (name : List ℕ) → count < 2 ^ 32 → ((n : ℕ) → n < 2 ^ 32 → name ≡ decimal n → (let o : Option ℕ = None in o) ≡ Some n) → number_named count name ≡ None
no_number count name fits only = number_missing count name (λ n few is. no_some n (only n (omega (arith, few, fits)) is))
