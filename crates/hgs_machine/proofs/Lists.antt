-- Parts of lists of operations.
use Rattle.std.proofs.Common.{◌≡◌, ℕ, zero, suc, ◌+◌, ◌<◌, ◌≤◌, List, [], ◌∷◌, ◌++◌, length, take, drop, refl, sym, ◌∙◌, ap, inl, inr, arith, add-one}
use Rattle.std.specs.Prelude.{Some, None, slice_get}
use Rattle.std.proofs.lemmas.List.{drop_all, length-take}
use Rattle.hgs_files.specs.declared.op.Op.{Op}
use Rattle.hgs_machine.specs.Course.{AreSome, between}

none_some : {A B : Type 0} (x : A) → ◌≡◌ {A = Rattle.std.specs.Prelude.Option A} None (Some x) → B
none_some x e = absurd (let h : ⊥ = cc in h)

-- up to a place, the operation there, and what is behind it
pub between-rest : (xs : List Op) (i k j : ℕ) (op : Op) → i ≤ k → k < j → slice_get xs k ≡ Some op → between i j xs ≡ between i k xs ++ op ∷ between (suc k) j xs
between-rest [] i k j op ik kj e = none_some op e
between-rest (x ∷ xs) zero zero zero op ik kj e = absurd (omega arith)
between-rest (x ∷ xs) zero zero (suc j) op ik kj e = ap (λ (o : Op). o ∷ take j xs) (let h : x ≡ op = cc in h)
between-rest (x ∷ xs) zero (suc k) zero op ik kj e = absurd (omega arith)
between-rest (x ∷ xs) zero (suc k) (suc j) op ik kj e = ap (λ (l : List Op). x ∷ l) (between-rest xs zero k j op (omega arith) (omega arith) e)
between-rest (x ∷ xs) (suc i) zero j op ik kj e = absurd (omega arith)
between-rest (x ∷ xs) (suc i) (suc k) zero op ik kj e = absurd (omega arith)
between-rest (x ∷ xs) (suc i) (suc k) (suc j) op ik kj e = between-rest xs i k j op (omega arith) (omega arith) e

nothing : (i j : ℕ) → between i j [] ≡ []
nothing i j = drop_all i (take j []) (let l = length-take {A = Op} j [] in omega arith)

all_none : (a b c : List Op) → a ≡ [] → b ≡ [] → c ≡ [] → a ≡ b ++ c
all_none a b c ea eb ec = ea ∙ sym (ap (λ (l : List Op). l ++ c) eb ∙ ec)

pub between-split : (xs : List Op) (i k j : ℕ) → i ≤ k → k ≤ j → between i j xs ≡ between i k xs ++ between k j xs
between-split [] i k j ik kj = all_none (between i j []) (between i k []) (between k j []) (nothing i j) (nothing i k) (nothing k j)
between-split (x ∷ xs) zero zero j ik kj = refl
between-split (x ∷ xs) zero (suc k) zero ik kj = absurd (omega arith)
between-split (x ∷ xs) zero (suc k) (suc j) ik kj = ap (λ (l : List Op). x ∷ l) (between-split xs zero k j (omega arith) (omega arith))
between-split (x ∷ xs) (suc i) zero j ik kj = absurd (omega arith)
between-split (x ∷ xs) (suc i) (suc k) zero ik kj = absurd (omega arith)
between-split (x ∷ xs) (suc i) (suc k) (suc j) ik kj = between-split xs i k j (omega arith) (omega arith)

pub get-take : (xs : List Op) (n k : ℕ) → k < n → slice_get (take n xs) k ≡ slice_get xs k
get-take xs zero k h = absurd (omega arith)
get-take [] (suc n) k h = refl
get-take (x ∷ xs) (suc n) zero h = refl
get-take (x ∷ xs) (suc n) (suc k) h = get-take xs n k (omega arith)

pub between-none : (i : ℕ) (xs : List Op) → between i i xs ≡ []
between-none i xs = drop_all i (take i xs) (let l = length-take i xs in omega arith)

-- one more
pub between-more : (xs : List Op) (i k : ℕ) (op : Op) → i ≤ k → slice_get xs k ≡ Some op → between i (k + 1) xs ≡ between i k xs ++ op ∷ []
between-more xs i k op ik e =
    ap (λ n. between i n xs) (add-one k) ∙ between-rest xs i k (suc k) op ik (omega arith) e ∙ ap (λ (l : List Op). between i k xs ++ op ∷ l) (between-none (suc k) xs)

pub take-more : (xs : List Op) (k : ℕ) (op : Op) → slice_get xs k ≡ Some op → take (k + 1) xs ≡ take k xs ++ op ∷ []
take-more xs k op e = between-more xs 0 k op (omega arith) e

-- the operation at a place
pub at-place : (xs rest : List Op) (k : ℕ) (op : Op) → drop k xs ≡ op ∷ rest → slice_get xs k ≡ Some op
at-place [] rest zero op e = absurd (omega (arith, ap length e))
at-place [] rest (suc k) op e = absurd (omega (arith, ap length e))
at-place (x ∷ xs) rest zero op e = ap (λ o. Some o) (let h : x ≡ op = cc in h)
at-place (x ∷ xs) rest (suc k) op e = at-place xs rest k op e

pub drop-add : (xs : List Op) (k n : ℕ) → drop (k + n) xs ≡ drop n (drop k xs)
drop-add xs zero n = ap (λ m. drop m xs) (let h : zero + n ≡ n = omega arith in h)
drop-add [] (suc k) n = drop_all (suc k + n) [] (omega arith) ∙ sym (drop_all n [] (omega arith))
drop-add (x ∷ xs) (suc k) n = ap (λ m. drop m (x ∷ xs)) (let h : suc k + n ≡ suc (k + n) = omega arith in h) ∙ drop-add xs k n

pub get-add : (xs : List Op) (k n : ℕ) → slice_get xs (k + n) ≡ slice_get (drop k xs) n
get-add xs zero n = ap (slice_get xs) (let h : zero + n ≡ n = omega arith in h)
get-add [] (suc k) n = refl
get-add (x ∷ xs) (suc k) n = ap (slice_get (x ∷ xs)) (let h : suc k + n ≡ suc (k + n) = omega arith in h) ∙ get-add xs k n

-- some is there
pub some-there : (xs ys : List Op) (o : Op) → (op : Op) × (left : List Op) × (xs ++ o ∷ ys ≡ op ∷ left)
some-there [] ys o = (o, ys, refl)
some-there (x ∷ xs) ys o = (x, xs ++ o ∷ ys, refl)

-- ---- some of a list

pub some-done : (all log : List Op) (op : Op) → AreSome all log → AreSome (all ++ op ∷ []) (log ++ op ∷ [])
some-done [] log op h = inr ([], ap (λ (l : List Op). l ++ op ∷ []) h, refl)
some-done (x ∷ all) log op (inl h) = inl (some-done all log op h)
some-done (x ∷ all) log op (inr h) = inr (h.0 ++ op ∷ [], ap (λ (l : List Op). l ++ op ∷ []) h.1, some-done all h.0 op h.2)

pub some-skipped : (all log : List Op) (op : Op) → AreSome all log → AreSome (all ++ op ∷ []) log
some-skipped [] log op h = inl h
some-skipped (x ∷ all) log op (inl h) = inl (some-skipped all log op h)
some-skipped (x ∷ all) log op (inr h) = inr (h.0, h.1, some-skipped all h.0 op h.2)
