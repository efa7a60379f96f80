-- Truth, numbers and lists.
use Rattle.std.proofs.Common.{◌≡◌, ◌≢◌, ◌⊎◌, ◌<◌, ◌≤◌, ℕ, zero, suc, ◌+◌, Bool, true, false, ◌&&◌, ◌||◌, List, [], ◌∷◌, ◌++◌, length, map, Option, Some, None, refl, sym, ◌∙◌, ap, inl, inr, arith}
use Rattle.std.specs.Prelude.{◌==◌, not, nat_le, nat_lt, slice_get, slice_index_or, slice_set}
use Rattle.std.proofs.lemmas.Bool.Decides.{nat_tests}
use Rattle.std.proofs.lemmas.Option.{slice_get-get_or}

-- ---- truth

pub false_is : {A : Type 0} → false ≡ true → A
false_is e = absurd (no e)
  where
    no : false ≡ true → ⊥
    no k = cc

pub both : (a b : Bool) → (a && b) ≡ true → (a ≡ true) × (b ≡ true)
both true b h = (refl, h)
both false b h = false_is h

pub both_of : (a b : Bool) → a ≡ true → b ≡ true → (a && b) ≡ true
both_of a b h k = ap (λ x. x && b) h ∙ k

pub either : (a b : Bool) → (a || b) ≡ true → (a ≡ true) ⊎ (b ≡ true)
either true b h = inl refl
either false b h = inr h

pub either_left : (a b : Bool) → a ≡ true → (a || b) ≡ true
either_left a b h = ap (λ x. x || b) h

pub either_right : (a b : Bool) → b ≡ true → (a || b) ≡ true
either_right true b h = refl
either_right false b h = h

pub same_number : (a : ℕ) → (a == a) ≡ true
same_number a = grind (arith, nat_tests)

pub number_same : (a b : ℕ) → (a == b) ≡ true → a ≡ b
number_same a b e = grind (arith, nat_tests)

pub le_is : (a b : ℕ) → nat_le a b ≡ true → a ≤ b
le_is a b e = grind (arith, nat_tests)

pub is_le : (a b : ℕ) → a ≤ b → nat_le a b ≡ true
is_le a b e = grind (arith, nat_tests)

pub lt_is : (a b : ℕ) → nat_lt a b ≡ true → a < b
lt_is a b e = grind (arith, nat_tests)

pub is_lt : (a b : ℕ) → a < b → nat_lt a b ≡ true
is_lt a b e = grind (arith, nat_tests)

pub not_true : (b : Bool) → (b ≡ true → ⊥) → b ≡ false
not_true true h = absurd (h refl)
not_true false h = refl

pub true_or_false : (b : Bool) → (b ≡ true) ⊎ (b ≡ false)
true_or_false true = inl refl
true_or_false false = inr refl

pub some_is : {A : Type 0} (x y : A) → Some x ≡ Some y → x ≡ y
some_is x y e = cc

pub none_is : {A : Type 0} (x : A) → None ≡ Some x → ⊥
none_is x e = cc

pub other_number : (a b : ℕ) → a ≢ b → (a == b) ≡ false
other_number a b ne = not_true (a == b) (λ e. ne (number_same a b e))

-- ---- lists

pub get_map : {A B : Type 0} (f : A → B) (xs : List A) (i : ℕ) (x : A) → slice_get xs i ≡ Some x → slice_get (map f xs) i ≡ Some (f x)
get_map f [] i x h = absurd (none_is x h)
get_map f (y ∷ xs) zero x h = ap (λ z. Some (f z)) (some_is y x h)
get_map f (y ∷ xs) (suc i) x h = get_map f xs i x h

pub get_low : {A : Type 0} (xs : List A) (i : ℕ) (x : A) → slice_get xs i ≡ Some x → i < length xs
get_low [] i x h = absurd (none_is x h)
get_low (y ∷ xs) zero x h = omega arith
get_low (y ∷ xs) (suc i) x h = let k = get_low xs i x h in omega (arith, k)

pub get_there : {A : Type 0} (xs : List A) (i : ℕ) → i < length xs → (x : A) × (slice_get xs i ≡ Some x)
get_there [] i h = absurd (omega (arith, h))
get_there (y ∷ xs) zero h = (y, refl)
get_there (y ∷ xs) (suc i) h = get_there xs i (omega (arith, h))

pub not_number : (a b : ℕ) → (a == b) ≡ false → a ≢ b
not_number a b e is = false_is (sym e ∙ ap (λ x. x == b) is ∙ same_number b)

pub get_is : {A : Type 0} (xs : List A) (i : ℕ) (x : A) → (i < length xs) × ((d : A) → x ≡ slice_index_or xs i d) → slice_get xs i ≡ Some x
get_is xs i x found = slice_get-get_or xs i x found.0 ∙ ap Some (sym (found.1 x))

-- ---- lists with one more

pub length_more : {A : Type 0} (xs : List A) (x : A) → length (xs ++ x ∷ []) ≡ length xs + 1
length_more [] x = refl
length_more (y ∷ xs) x = let e = length_more xs x in omega (arith, e)

pub map_more : {A B : Type 0} (f : A → B) (xs : List A) (x : A) → map f (xs ++ x ∷ []) ≡ map f xs ++ f x ∷ []
map_more f [] x = refl
map_more f (y ∷ xs) x = ap (λ l. f y ∷ l) (map_more f xs x)

pub get_front : {A : Type 0} (xs ys : List A) (i : ℕ) → i < length xs → slice_get (xs ++ ys) i ≡ slice_get xs i
get_front [] ys i lt = absurd (omega (arith, lt))
get_front (x ∷ xs) ys zero lt = refl
get_front (x ∷ xs) ys (suc i) lt = get_front xs ys i (omega (arith, lt))

pub get_last : {A : Type 0} (xs : List A) (x : A) (i : ℕ) → i ≡ length xs → slice_get (xs ++ x ∷ []) i ≡ Some x
get_last [] x zero e = refl
get_last [] x (suc i) e = absurd (omega (arith, e))
get_last (y ∷ xs) x zero e = absurd (omega (arith, e))
get_last (y ∷ xs) x (suc i) e = get_last xs x i (omega (arith, e))

pub mark_front : (xs ys : List Bool) (i : ℕ) → i < length xs → slice_index_or (xs ++ ys) i false ≡ slice_index_or xs i false
mark_front [] ys i lt = absurd (omega (arith, lt))
mark_front (x ∷ xs) ys zero lt = refl
mark_front (x ∷ xs) ys (suc i) lt = mark_front xs ys i (omega (arith, lt))

pub mark_last : (xs : List Bool) (i : ℕ) → i ≡ length xs → slice_index_or (xs ++ true ∷ []) i false ≡ true
mark_last [] zero e = refl
mark_last [] (suc i) e = absurd (omega (arith, e))
mark_last (y ∷ xs) zero e = absurd (omega (arith, e))
mark_last (y ∷ xs) (suc i) e = mark_last xs i (omega (arith, e))

pub mark_low : (marks : List Bool) (i : ℕ) → slice_index_or marks i false ≡ true → i < length marks
mark_low [] i h = false_is h
mark_low (x ∷ marks) zero h = omega arith
mark_low (x ∷ marks) (suc i) h = let k = mark_low marks i h in omega (arith, k)

pub get_set : {A : Type 0} (xs : List A) (n i : ℕ) (new y : A) → slice_get (slice_set xs n new) i ≡ Some y → ((i ≡ n) × (new ≡ y)) ⊎ ((i ≢ n) × (slice_get xs i ≡ Some y))
get_set [] n i new y h = absurd (none_is y h)
get_set (x ∷ xs) zero zero new y h = inl (refl, some_is new y h)
get_set (x ∷ xs) zero (suc i) new y h = inr (not_zero i, h)
  where
    not_zero : (j : ℕ) → suc j ≢ 0
    not_zero j e = omega (arith, e)
get_set (x ∷ xs) (suc n) zero new y h = inr (not_suc n, h)
  where
    not_suc : (j : ℕ) → 0 ≢ suc j
    not_suc j e = omega (arith, e)
get_set (x ∷ xs) (suc n) (suc i) new y h = elim (get_set xs n i new y h) [
  | inl e ↦ inl (ap (λ j. suc j) e.0, e.1)
  | inr e ↦ inr (λ same. e.0 (less i n same), e.1)
]
  where
    less : (a b : ℕ) → suc a ≡ suc b → a ≡ b
    less a b e = omega (arith, e)

pub get_set_same : {A : Type 0} (xs : List A) (n : ℕ) (new : A) → n < length xs → slice_get (slice_set xs n new) n ≡ Some new
get_set_same [] n new lt = absurd (omega (arith, lt))
get_set_same (x ∷ xs) zero new lt = refl
get_set_same (x ∷ xs) (suc n) new lt = get_set_same xs n new (omega (arith, lt))

pub get_set_other : {A : Type 0} (xs : List A) (n i : ℕ) (new : A) → i ≢ n → slice_get (slice_set xs n new) i ≡ slice_get xs i
get_set_other [] n i new ne = refl
get_set_other (x ∷ xs) zero zero new ne = absurd (ne refl)
get_set_other (x ∷ xs) zero (suc i) new ne = refl
get_set_other (x ∷ xs) (suc n) zero new ne = refl
get_set_other (x ∷ xs) (suc n) (suc i) new ne = get_set_other xs n i new (λ e. ne (more i n e))
  where
    more : (a b : ℕ) → a ≡ b → suc a ≡ suc b
    more a b e = omega (arith, e)

pub set_same : {A : Type 0} (xs : List A) (n : ℕ) (x : A) → slice_get xs n ≡ Some x → slice_set xs n x ≡ xs
set_same [] n x e = refl
set_same (y ∷ xs) zero x e = ap (λ z. z ∷ xs) (sym (some_is y x e))
set_same (y ∷ xs) (suc n) x e = ap (λ l. y ∷ l) (set_same xs n x e)

pub length_set : {A : Type 0} (xs : List A) (n : ℕ) (new : A) → length (slice_set xs n new) ≡ length xs
length_set [] n new = refl
length_set (x ∷ xs) zero new = refl
length_set (x ∷ xs) (suc n) new = let e = length_set xs n new in omega (arith, e)

pub length_map : {A B : Type 0} (f : A → B) (xs : List A) → length (map f xs) ≡ length xs
length_map f [] = refl
length_map f (x ∷ xs) = let e = length_map f xs in omega (arith, e)

pub low_or_last : (i n : ℕ) → i < n + 1 → (i < n) ⊎ (i ≡ n)
low_or_last i n lt = elim (true_or_false (i == n)) [
  | inl e ↦ inr (number_same i n e)
  | inr e ↦ inl (let ne = not_number i n e in smaller i n lt ne)
]
  where
    smaller : (a b : ℕ) → a < b + 1 → a ≢ b → a < b
    smaller a b l ne = omega (arith, l, ne)

pub past_none : {A : Type 0} (xs : List A) (i : ℕ) → length xs ≤ i → slice_get xs i ≡ None
past_none [] i le = refl
past_none (x ∷ xs) zero le = absurd (omega (arith, le))
past_none (x ∷ xs) (suc i) le = past_none xs i (omega (arith, le))

pub place_of : (i n : ℕ) → (i < n) ⊎ ((i ≡ n) ⊎ (n + 1 ≤ i))
place_of i n = elim (true_or_false (i == n)) [
  | inl e ↦ inr (inl (number_same i n e))
  | inr e ↦ apart i n (not_number i n e)
]
  where
    apart : (a b : ℕ) → a ≢ b → (a < b) ⊎ ((a ≡ b) ⊎ (b + 1 ≤ a))
    apart zero zero ne = absurd (ne refl)
    apart zero (suc b) ne = inl (omega arith)
    apart (suc a) zero ne = inr (inr (omega arith))
    apart (suc a) (suc b) ne = elim (apart a b (λ e. ne (let s = e in omega (arith, s)))) [
      | inl lt ↦ inl (omega (arith, lt))
      | inr k ↦ elim k [ inl e ↦ inr (inl (let s = e in omega (arith, s))) | inr le ↦ inr (inr (omega (arith, le))) ]
    ]
