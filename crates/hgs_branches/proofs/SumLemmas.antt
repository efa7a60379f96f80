-- The stored bytes of changesets one behind another.
use Rattle.std.proofs.Common.{◌≡◌, ◌<◌, ◌≤◌, ℕ, zero, suc, ◌+◌, ◌-◌, List, [], ◌∷◌, length, take, drop, Option, Some, None, refl, sym, ◌∙◌, ap, arith}
use Rattle.std.specs.Prelude.{slice_get}
use Rattle.std.proofs.lemmas.List.Sums.{sum_by-cons}
use Rattle.hgs_index.specs.declared.entry.Entry.{Entry}
use Rattle.hgs_revlog.specs.Log.{stored_sum}
use Rattle.hgs_branches.specs.Read.{stored_between}

pub get_there : (xs : List Entry) (i : ℕ) → i < length xs → (x : Entry) × (slice_get xs i ≡ Some x)
get_there [] i h = absurd (omega (arith, h))
get_there (y ∷ xs) zero h = (y, refl)
get_there (y ∷ xs) (suc i) h = get_there xs i (omega (arith, h))

get_drop : (xs : List Entry) (from k : ℕ) → slice_get (drop from xs) k ≡ slice_get xs (from + k)
get_drop xs zero k = ap (slice_get xs) (zero_more k)
  where
    zero_more : (n : ℕ) → n ≡ 0 + n
    zero_more n = omega arith
get_drop [] (suc from) k = refl
get_drop (x ∷ xs) (suc from) k = get_drop xs from k ∙ ap (slice_get (x ∷ xs)) (more from k)
  where
    more : (a b : ℕ) → suc (a + b) ≡ suc a + b
    more a b = omega arith

sum_first : (x : Entry) (xs : List Entry) (k : ℕ) → stored_sum (take (suc k) (x ∷ xs)) ≡ x.stored + stored_sum (take k xs)
sum_first x xs k = sum_by-cons (λ (y : Entry). y.stored) x (take k xs)

sum_more : (xs : List Entry) (k : ℕ) (e : Entry) → slice_get xs k ≡ Some e → stored_sum (take (suc k) xs) ≡ stored_sum (take k xs) + e.stored
sum_more [] k e h = cc
sum_more (x ∷ xs) zero e h = let same = ap (λ (y : Entry). y.stored) (some_is x h) in omega (arith, same)
  where
    some_is : (y : Entry) → Some y ≡ Some e → y ≡ e
    some_is y d = cc
sum_more (x ∷ xs) (suc k) e h =
    let rest = sum_more xs k e h in
    let one = sum_first x xs (suc k) in
    let two = sum_first x xs k in omega (arith, rest, one, two)

pub between_none : (entries : List Entry) (at : ℕ) → stored_between entries at at ≡ 0
between_none entries at = ap (λ k. stored_sum (take k (drop at entries))) (none at)
  where
    none : (n : ℕ) → n - n ≡ 0
    none n = omega arith

pub between_more : (entries : List Entry) (from at : ℕ) (e : Entry) → from ≤ at → slice_get entries at ≡ Some e → stored_between entries from (suc at) ≡ stored_between entries from at + e.stored
between_more entries from at e le there =
    ap (λ k. stored_sum (take k (drop from entries))) (longer from at le)
    ∙ sum_more (drop from entries) (at - from) e (get_drop entries from (at - from) ∙ ap (slice_get entries) (back from at le) ∙ there)
  where
    back : (x y : ℕ) → x ≤ y → x + (y - x) ≡ y
    back x y l = omega (arith, l)

    longer : (x y : ℕ) → x ≤ y → suc y - x ≡ suc (y - x)
    longer x y l = omega (arith, l)

-- one part and the next
parts : (entries : List Entry) (a b n : ℕ) → a ≤ b → b + n ≤ length entries → stored_between entries a (b + n) ≡ stored_between entries a b + stored_between entries b (b + n)
parts entries a b zero le there =
    let none = between_none entries b in
    let same : b + 0 ≡ b = omega arith in
    let P : stored_between entries a (b + 0) ≡ stored_between entries a b = ap (stored_between entries a) same in
    let Q : stored_between entries b (b + 0) ≡ stored_between entries b b = ap (stored_between entries b) same in
    omega (arith, none, P, Q)
parts entries a b (suc n) le there =
    let e = get_there entries (b + n) (omega (arith, there)) in
    let one = between_more entries a (b + n) e.0 (omega (arith, le)) e.1 in
    let two = between_more entries b (b + n) e.0 (omega arith) e.1 in
    let rest = parts entries a b n le (omega (arith, there)) in
    let same : b + suc n ≡ suc (b + n) = omega arith in
    let P : stored_between entries a (b + suc n) ≡ stored_between entries a (suc (b + n)) = ap (stored_between entries a) same in
    let Q : stored_between entries b (b + suc n) ≡ stored_between entries b (suc (b + n)) = ap (stored_between entries b) same in
    omega (arith, one, two, rest, P, Q)

pub between_both : (entries : List Entry) (a b c : ℕ) → a ≤ b → b ≤ c → c ≤ length entries → stored_between entries a c ≡ stored_between entries a b + stored_between entries b c
between_both entries a b c ab bc there =
    let same : b + (c - b) ≡ c = omega (arith, bc) in
    let rest = parts entries a b (c - b) ab (omega (arith, bc, there)) in
    let P : stored_between entries a (b + (c - b)) ≡ stored_between entries a c = ap (stored_between entries a) same in
    let Q : stored_between entries b (b + (c - b)) ≡ stored_between entries b c = ap (stored_between entries b) same in
    omega (arith, rest, P, Q)
