-- Truth, numbers, lists and counts.
use Rattle.std.proofs.Common.{◌≡◌, ◌⊎◌, ◌<◌, ℕ, zero, suc, ◌+◌, Bool, true, false, cond, List, [], ◌∷◌, ◌++◌, length, map, Some, None, refl, ◌∙◌, ap, inl, inr, arith}
use Rattle.std.specs.Prelude.{◌==◌, nat_lt, replicate, slice_get, slice_index_or, count_by}
use Rattle.std.proofs.lemmas.Bool.Decides.{nat_tests}
use Rattle.std.proofs.lemmas.List.Sums.{sum_by_push, sum_by-append, sum_by-cons}

pub false_is : {A : Type 0} → false ≡ true → A
false_is e = absurd (no e)
  where
    no : false ≡ true → ⊥
    no k = cc

pub true_or_false : (b : Bool) → (b ≡ true) ⊎ (b ≡ false)
true_or_false true = inl refl
true_or_false false = inr refl

pub same_number : (a : ℕ) → (a == a) ≡ true
same_number a = grind (arith, nat_tests)

pub number_same : (a b : ℕ) → (a == b) ≡ true → a ≡ b
number_same a b e = grind (arith, nat_tests)

pub not_true : (b : Bool) → (b ≡ true → ⊥) → b ≡ false
not_true true h = absurd (h refl)
not_true false h = refl

pub some_is : {A : Type 0} (x y : A) → Some x ≡ Some y → x ≡ y
some_is x y e = cc

pub none_is : {A : Type 0} (x : A) → None ≡ Some x → ⊥
none_is x e = cc

pub get_low : {A : Type 0} (xs : List A) (i : ℕ) (x : A) → slice_get xs i ≡ Some x → i < length xs
get_low [] i x h = absurd (none_is x h)
get_low (y ∷ xs) zero x h = omega arith
get_low (y ∷ xs) (suc i) x h = let k = get_low xs i x h in omega (arith, k)

pub get_there : {A : Type 0} (xs : List A) (i : ℕ) → i < length xs → (x : A) × (slice_get xs i ≡ Some x)
get_there [] i h = absurd (omega (arith, h))
get_there (y ∷ xs) zero h = (y, refl)
get_there (y ∷ xs) (suc i) h = get_there xs i (omega (arith, h))

pub get_map : {A B : Type 0} (f : A → B) (xs : List A) (i : ℕ) (x : A) → slice_get xs i ≡ Some x → slice_get (map f xs) i ≡ Some (f x)
get_map f [] i x h = absurd (none_is x h)
get_map f (y ∷ xs) zero x h = ap (λ z. Some (f z)) (some_is y x h)
get_map f (y ∷ xs) (suc i) x h = get_map f xs i x h

pub length_map : {A B : Type 0} (f : A → B) (xs : List A) → length (map f xs) ≡ length xs
length_map f [] = refl
length_map f (x ∷ xs) = let e = length_map f xs in omega (arith, e)

pub get_front : {A : Type 0} (xs ys : List A) (i : ℕ) (x : A) → slice_get xs i ≡ Some x → slice_get (xs ++ ys) i ≡ Some x
get_front [] ys i x h = absurd (none_is x h)
get_front (y ∷ xs) ys zero x h = h
get_front (y ∷ xs) ys (suc i) x h = get_front xs ys i x h

pub get_behind : {A : Type 0} (xs ys : List A) (i : ℕ) → slice_get (xs ++ ys) (length xs + i) ≡ slice_get ys i
get_behind [] ys i = ap (slice_get ys) (let e : 0 + i ≡ i = omega arith in e)
get_behind (x ∷ xs) ys i =
    let e : length (x ∷ xs) + i ≡ suc (length xs + i) = omega arith in
    ap (slice_get (x ∷ (xs ++ ys))) e ∙ get_behind xs ys i

-- an item of a list with more behind it is one of the list, or one of those
pub get_either : {A : Type 0} (xs ys : List A) (i : ℕ) (x : A) → slice_get (xs ++ ys) i ≡ Some x → (slice_get xs i ≡ Some x) ⊎ ((j : ℕ) × (slice_get ys j ≡ Some x))
get_either [] ys i x h = inr (i, h)
get_either (y ∷ xs) ys zero x h = inl h
get_either (y ∷ xs) ys (suc i) x h = get_either xs ys i x h

pub mark_low : (marks : List Bool) (i : ℕ) → slice_index_or marks i false ≡ true → i < length marks
mark_low [] i h = false_is h
mark_low (x ∷ marks) zero h = omega arith
mark_low (x ∷ marks) (suc i) h = let k = mark_low marks i h in omega (arith, k)

-- ---- counts

pub count_push : {A : Type 0} (p : A → Bool) (xs : List A) (x : A) → count_by p (xs ++ x ∷ []) ≡ count_by p xs + cond (p x) 1 0
count_push p xs x = sum_by_push (λ y. cond (p y) 1 0) xs x

pub count_append : {A : Type 0} (p : A → Bool) (xs ys : List A) → count_by p (xs ++ ys) ≡ count_by p xs + count_by p ys
count_append p xs ys = sum_by-append (λ y. cond (p y) 1 0) xs ys

pub count_cons : {A : Type 0} (p : A → Bool) (x : A) (xs : List A) → count_by p (x ∷ xs) ≡ cond (p x) 1 0 + count_by p xs
count_cons p x xs = sum_by-cons (λ y. cond (p y) 1 0) x xs

abbrev one : Bool → ℕ
one b = cond b 1 0

-- what is counted stands in the list
pub counted_there : {A : Type 0} (p : A → Bool) (xs : List A) → 0 < count_by p xs → (i : ℕ) × (x : A) × (slice_get xs i ≡ Some x) × (p x ≡ true)
counted_there p [] h = absurd (omega (arith, h))
counted_there {A} p (x ∷ xs) h = by (p x) refl (counted_there p xs)
  where
    by : (b : Bool) → p x ≡ b → (0 < count_by p xs → (i : ℕ) × (y : A) × (slice_get xs i ≡ Some y) × (p y ≡ true)) → (i : ℕ) × (y : A) × (slice_get (x ∷ xs) i ≡ Some y) × (p y ≡ true)
    by true e deeper = (0, x, refl, e)
    by false e deeper =
        let none : cond (p x) 1 0 ≡ 0 = ap one e in
        let d = deeper (let c = count_cons p x xs in omega (arith, h, c, none)) in
        (suc d.0, d.1, d.2, d.3)

-- and what stands in it is counted
pub there_counted : {A : Type 0} (p : A → Bool) (xs : List A) (i : ℕ) (x : A) → slice_get xs i ≡ Some x → p x ≡ true → 0 < count_by p xs
there_counted p [] i x h e = absurd (none_is x h)
there_counted p (y ∷ xs) zero x h e =
    let c = count_cons p y xs in let z : cond (p y) 1 0 ≡ 1 = ap one (ap p (some_is y x h) ∙ e) in omega (arith, c, z)
there_counted p (y ∷ xs) (suc i) x h e = let c = count_cons p y xs in let k = there_counted p xs i x h e in omega (arith, c, k)

-- ---- the same many times

pub length_replicate : {A : Type 0} (n : ℕ) (x : A) → length (replicate n x) ≡ n
length_replicate zero x = refl
length_replicate (suc n) x = ap suc (length_replicate n x)

pub unmarked_in : (n i : ℕ) → slice_index_or (replicate n false) i false ≡ false
unmarked_in zero i = refl
unmarked_in (suc n) zero = refl
unmarked_in (suc n) (suc i) = unmarked_in n i

pub lt_is : (a b : ℕ) → nat_lt a b ≡ true → a < b
lt_is a b e = grind (arith, nat_tests)
