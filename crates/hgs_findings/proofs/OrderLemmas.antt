-- Texts in lists, and lists that ascend.
use Rattle.std.proofs.Common.{◌≡◌, ◌⊎◌, ℕ, List, [], ◌∷◌, ◌++◌, Bool, true, false, cond, ◌&&◌, ◌||◌, map, refl, sym, ◌∙◌, ap, inl, inr}
use Rattle.std.specs.Prelude.{Option, Some, None, is_some, filter, find}
use Rattle.std.specs.List.{AllByRecursion}
use Rattle.std.proofs.lemmas.Cmp.{tied_itself}
use Rattle.std.specs.Cmp.Lexicographic.{nat_list_cmp_total}
use Rattle.std.specs.Ordering.{is_lt}
use Rattle.hgs_bytes.specs.Bytes.{same, among, is_below}
use Rattle.hgs_bytes.specs.Text.{ascends}
use Rattle.hgs_model.specs.History.{inserted, in_order}
use Rattle.hgs_model.specs.Theorems.ListLemmas.{ascends-head, ascends-tail}
use Rattle.hgs_findings.proofs.Basics.{same-eq, same-refl, bool, never, below-or, below-trans}

pub same-swap : (x y : List ℕ) → same x y ≡ false → same y x ≡ false
same-swap x y e = elim (bool (same y x)) [
  | inl t ↦ never (sym (same-refl x) ∙ ap (same x) (sym (same-eq y x t)) ∙ e)
  | inr t ↦ t
]

pub below-differs : (x y : List ℕ) → is_below x y ≡ true → same x y ≡ false
below-differs x y a = elim (bool (same x y)) [
  | inl e ↦ never (sym (sym (ap is_lt (tied_itself nat_list_cmp_total x)) ∙ (ap (is_below x) (same-eq x y e) ∙ a)))
  | inr e ↦ e
]

-- a text below the first of an ascending list doesn't stand in it
pub below-all : (x : List ℕ) (y : List ℕ) (ys : List (List ℕ)) → is_below x y ≡ true → ascends (y ∷ ys) ≡ true → among x (y ∷ ys) ≡ false
below-all x y [] b a = ap (λ z. z || false) (below-differs x y b)
below-all x y (z ∷ ys) b a =
    ap (λ q. q || among x (z ∷ ys)) (below-differs x y b) ∙ below-all x z ys (below-trans x y z b (ascends-head y (z ∷ ys) a)) (ascends-tail y (z ∷ ys) a)

pub not-behind : (x : List ℕ) (ys : List (List ℕ)) → ascends (x ∷ ys) ≡ true → among x ys ≡ false
not-behind x [] a = refl
not-behind x (y ∷ ys) a = below-all x y ys (ascends-head x (y ∷ ys) a) (ascends-tail x (y ∷ ys) a)

-- ascending lists with the same texts are one
pub ascend-same : (xs ys : List (List ℕ)) → ascends xs ≡ true → ascends ys ≡ true → ((p : List ℕ) → among p xs ≡ among p ys) → xs ≡ ys
ascend-same [] [] a b m = refl
ascend-same [] (y ∷ ys) a b m = never (sym (m y ∙ ap (λ z. z || among y ys) (same-refl y)))
ascend-same (x ∷ xs) [] a b m = never (sym (sym (m x) ∙ ap (λ z. z || among x xs) (same-refl x)))
ascend-same (x ∷ xs) (y ∷ ys) a b m = by (bool (same x y)) (bool (is_below x y)) (ascend-same xs ys (ascends-tail x xs a) (ascends-tail y ys b))
  where
    here : among x (y ∷ ys) ≡ true
    here = sym (m x) ∙ ap (λ z. z || among x xs) (same-refl x)

    there : among y (x ∷ xs) ≡ true
    there = m y ∙ ap (λ z. z || among y ys) (same-refl y)

    by : (same x y ≡ true) ⊎ (same x y ≡ false) → (is_below x y ≡ true) ⊎ (is_below x y ≡ false) → (((p : List ℕ) → among p xs ≡ among p ys) → xs ≡ ys) → x ∷ xs ≡ y ∷ ys
    by (inr e) (inl l) rec = never (sym here ∙ below-all x y ys l b)
    by (inr e) (inr l) rec = never (sym there ∙ below-all y x xs (below-or x y e l) a)
    by (inl e) l rec = let s = same-eq x y e in let t = rec (λ p. rest p s) in λ i. s i ∷ t i
      where
        rest : (p : List ℕ) → x ≡ y → among p xs ≡ among p ys
        rest p s = step_on (bool (same p x))
          where
            step_on : (same p x ≡ true) ⊎ (same p x ≡ false) → among p xs ≡ among p ys
            step_on (inl t) =
                let is : p ≡ x = same-eq p x t in
                ap (λ q. among q xs) is ∙ not-behind x xs a ∙ sym (ap (λ q. among q ys) (is ∙ s) ∙ not-behind y ys b)
            step_on (inr t) = sym (ap (λ z. z || among p xs) t) ∙ m p ∙ ap (λ z. z || among p ys) (ap (same p) (sym s) ∙ t)

-- ---- what stands in a list that is made of others

pub among-join : (p : List ℕ) (xs ys : List (List ℕ)) → among p (xs ++ ys) ≡ (among p xs || among p ys)
among-join p [] ys = refl
among-join p (x ∷ xs) ys = ap (λ b. same p x || b) (among-join p xs ys) ∙ or-assoc (same p x) (among p xs) (among p ys)
  where
    or-assoc : (a b c : Bool) → (a || (b || c)) ≡ ((a || b) || c)
    or-assoc true b c = refl
    or-assoc false b c = refl

among-inserted : (p x : List ℕ) (ys : List (List ℕ)) → among p (inserted x ys) ≡ (same p x || among p ys)
among-inserted p x [] = refl
among-inserted p x (y ∷ ys) = by (bool (same x y)) (is_below x y) (among-inserted p x ys)
  where
    by : (same x y ≡ true) ⊎ (same x y ≡ false) → (b : Bool) → among p (inserted x ys) ≡ (same p x || among p ys) → among p (cond (same x y) (y ∷ ys) (cond b (x ∷ y ∷ ys) (y ∷ inserted x ys))) ≡ (same p x || (same p y || among p ys))
    by (inl e) b rec = ap (λ z. among p (cond z (y ∷ ys) (cond b (x ∷ y ∷ ys) (y ∷ inserted x ys)))) e ∙ twice (same p y) (among p ys) ∙ ap (λ z. same p z || (same p y || among p ys)) (sym (same-eq x y e))
      where
        twice : (a c : Bool) → (a || c) ≡ (a || (a || c))
        twice true c = refl
        twice false c = refl
    by (inr e) true rec = ap (λ z. among p (cond z (y ∷ ys) (x ∷ y ∷ ys))) e
    by (inr e) false rec = ap (λ z. among p (cond z (y ∷ ys) (y ∷ inserted x ys))) e ∙ ap (λ z. same p y || z) rec ∙ turn (same p y) (same p x) (among p ys)
      where
        turn : (a b c : Bool) → (a || (b || c)) ≡ (b || (a || c))
        turn true true c = refl
        turn true false c = refl
        turn false b c = refl

pub among-in_order : (p : List ℕ) (xs : List (List ℕ)) → among p (in_order xs) ≡ among p xs
among-in_order p [] = refl
among-in_order p (x ∷ xs) = among-inserted p x (in_order xs) ∙ ap (λ b. same p x || b) (among-in_order p xs)

pub among-filter : (g : List ℕ → Bool) (p : List ℕ) (xs : List (List ℕ)) → among p (filter g xs) ≡ (g p && among p xs)
among-filter g p [] = and-false (g p)
  where
    and-false : (b : Bool) → false ≡ (b && false)
    and-false true = refl
    and-false false = refl
among-filter g p (x ∷ xs) = by (bool (same p x)) (g x) refl (among-filter g p xs)
  where
    and-true : (b : Bool) → b ≡ (b && true)
    and-true true = refl
    and-true false = refl

    by : (same p x ≡ true) ⊎ (same p x ≡ false) → (b : Bool) → g x ≡ b → among p (filter g xs) ≡ (g p && among p xs) → among p (cond b (x ∷ filter g xs) (filter g xs)) ≡ (g p && (same p x || among p xs))
    by (inl t) true e rec = ap (λ z. z || among p (filter g xs)) t ∙ sym (ap g (same-eq p x t) ∙ e) ∙ and-true (g p) ∙ ap (λ z. g p && (z || among p xs)) (sym t)
    by (inl t) false e rec = rec ∙ ap (λ z. z && among p xs) (ap g (same-eq p x t) ∙ e) ∙ sym (ap (λ z. z && (same p x || among p xs)) (ap g (same-eq p x t) ∙ e))
    by (inr t) true e rec = ap (λ z. z || among p (filter g xs)) t ∙ rec ∙ ap (λ z. g p && (z || among p xs)) (sym t)
    by (inr t) false e rec = rec ∙ ap (λ z. g p && (z || among p xs)) (sym t)

-- ---- what is found by its path

module _ {A : Type 0} (path : A → List ℕ) where
  abbrev pub found_at : List ℕ → List A → Option A
  found_at p xs = find (λ x. same (path x) p) xs

  pub among-found : (p : List ℕ) (xs : List A) → among p (map path xs) ≡ is_some (found_at p xs)
  among-found p [] = refl
  among-found p (x ∷ xs) = by (bool (same (path x) p)) (among-found p xs)
    where
      by : (same (path x) p ≡ true) ⊎ (same (path x) p ≡ false) → among p (map path xs) ≡ is_some (found_at p xs) → (same p (path x) || among p (map path xs)) ≡ is_some (cond (same (path x) p) (Some x) (found_at p xs))
      by (inl t) rec = ap (λ q. same q (path x) || among p (map path xs)) (sym (same-eq (path x) p t)) ∙ ap (λ z. z || among p (map path xs)) (same-refl (path x)) ∙ sym (ap (λ z. is_some (cond z (Some x) (found_at p xs))) t)
      by (inr t) rec = ap (λ z. z || among p (map path xs)) (same-swap (path x) p t) ∙ rec ∙ sym (ap (λ z. is_some (cond z (Some x) (found_at p xs))) t)

  none-found : (p : List ℕ) (xs : List A) → among p (map path xs) ≡ false → found_at p xs ≡ None
  none-found p xs e = by (found_at p xs) (sym (among-found p xs) ∙ e)
    where
      by : (o : Option A) → is_some o ≡ false → o ≡ None
      by None h = refl
      by (Some x) h = never h

  -- where the paths ascend each is found by its path
  pub found-itself : (xs : List A) → ascends (map path xs) ≡ true → AllByRecursion (λ x. found_at (path x) xs ≡ Some x) xs
  found-itself [] a = tt
  found-itself (x ∷ xs) a = (ap (λ b. cond b (Some x) (found_at (path x) xs)) (same-refl (path x)), rest xs (λ p m. other p m) (found-itself xs (ascends-tail (path x) (map path xs) a)))
    where
      other : (p : List ℕ) → among p (map path xs) ≡ true → same (path x) p ≡ false
      other p m = elim (bool (same (path x) p)) [
        | inl t ↦ never (sym m ∙ ap (λ q. among q (map path xs)) (sym (same-eq (path x) p t)) ∙ not-behind (path x) (map path xs) a)
        | inr t ↦ t
      ]

      rest : (ys : List A) → ((p : List ℕ) → among p (map path ys) ≡ true → same (path x) p ≡ false) → AllByRecursion (λ y. found_at (path y) xs ≡ Some y) ys → AllByRecursion (λ y. found_at (path y) (x ∷ xs) ≡ Some y) ys
      rest [] m all = tt
      rest (y ∷ ys) m all = (
        ap (λ b. cond b (Some x) (found_at (path y) xs)) (m (path y) (ap (λ z. z || among (path y) (map path ys)) (same-refl (path y)))) ∙ all.0,
        rest ys (λ p h. m p (right (same p (path y)) (among p (map path ys)) h)) all.1,
      )
        where
          right : (a b : Bool) → b ≡ true → (a || b) ≡ true
          right true b h = refl
          right false b h = h

  abbrev pub is_so : (A → Bool) → Option A → Bool
  is_so f None = false
  is_so f (Some x) = f x

  -- which paths are left by a filter
  pub among-filtered : (f : A → Bool) (p : List ℕ) (xs : List A) → ascends (map path xs) ≡ true → among p (map path (filter f xs)) ≡ is_so f (found_at p xs)
  among-filtered f p [] a = refl
  among-filtered f p (x ∷ xs) a = by (bool (same (path x) p)) (f x) refl (among-filtered f p xs (ascends-tail (path x) (map path xs) a))
    where
      by : (same (path x) p ≡ true) ⊎ (same (path x) p ≡ false) → (b : Bool) → f x ≡ b → among p (map path (filter f xs)) ≡ is_so f (found_at p xs) → among p (map path (cond b (x ∷ filter f xs) (filter f xs))) ≡ is_so f (cond (same (path x) p) (Some x) (found_at p xs))
      by (inl t) true e rec = ap (λ q. same q (path x) || among p (map path (filter f xs))) (sym (same-eq (path x) p t)) ∙ ap (λ z. z || among p (map path (filter f xs))) (same-refl (path x)) ∙ sym e ∙ sym (ap (λ z. is_so f (cond z (Some x) (found_at p xs))) t)
      by (inl t) false e rec = rec ∙ ap (is_so f) (none-found p xs (ap (λ q. among q (map path xs)) (sym (same-eq (path x) p t)) ∙ not-behind (path x) (map path xs) a)) ∙ sym e ∙ sym (ap (λ z. is_so f (cond z (Some x) (found_at p xs))) t)
      by (inr t) true e rec = ap (λ z. z || among p (map path (filter f xs))) (same-swap (path x) p t) ∙ rec ∙ sym (ap (λ z. is_so f (cond z (Some x) (found_at p xs))) t)
      by (inr t) false e rec = rec ∙ sym (ap (λ z. is_so f (cond z (Some x) (found_at p xs))) t)
