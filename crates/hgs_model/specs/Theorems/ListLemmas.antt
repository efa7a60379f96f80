-- Lists whose items have a fact, and lists that ascend.
use Rattle.std.proofs.Common.{◌≡◌, ◌⊎◌, ℕ, zero, suc, List, [], ◌∷◌, ◌++◌, Bool, true, false, cond, ◌&&◌, map, refl, sym, ◌∙◌, ap, subst, inl, inr}
use Rattle.std.specs.Prelude.{Some, None, slice_index_or, filter, find}
use Rattle.std.specs.List.{AllByRecursion}
use Rattle.std.specs.Cmp.Lexicographic.{slice_cmp, nat_list_cmp_total, lists_ties}
use Rattle.std.specs.Ordering.{nat_cmp, is_lt, is_eq, ordering_reverse}
use Rattle.std.specs.declared.cmp.Ordering.{Ordering}
use Rattle.std.specs.declared.cmp.Ordering.TheVariants.{Less, Equal, Greater}
use Rattle.std.specs.Cmp.{unsigned_ties}
use Rattle.hgs_bytes.specs.Bytes.{same, is_below}
use Rattle.hgs_bytes.specs.Text.{ascends}

pub bool : (b : Bool) → (b ≡ true) ⊎ (b ≡ false)
bool true = inl refl
bool false = inr refl

pub never : {A : Type 0} → true ≡ false → A
never e = absurd (no_case e)
  where
    no_case : true ≡ false → ⊥
    no_case h = cc

pub and-left : (a b : Bool) → (a && b) ≡ true → a ≡ true
and-left true b e = refl
and-left false b e = e

pub and-right : (a b : Bool) → (a && b) ≡ true → b ≡ true
and-right true b e = e
and-right false b e = never (sym e)

pub and-both : (a b : Bool) → a ≡ true → b ≡ true → (a && b) ≡ true
and-both true b e f = f
and-both false b e f = e

pub some-same : {A : Type 0} (d x y : A) → Some x ≡ Some y → x ≡ y
some-same d x y e = ap (elim [ None ↦ d | Some z ↦ z ]) e

pub none-some : {A B : Type 0} (x : A) → None ≡ Some x → B
none-some x e = absurd (no e)
  where
    no : None ≡ Some x → ⊥
    no h = cc

-- ---- lists whose items have a fact

pub all-push : {A : Type 0} (P : A → Type 0) (xs : List A) (x : A) → AllByRecursion P xs → P x → AllByRecursion P (xs ++ x ∷ [])
all-push P [] x all p = (p, tt)
all-push P (y ∷ xs) x all p = (all.0, all-push P xs x all.1 p)

pub all-map : {A : Type 0} (P Q : A → Type 0) (xs : List A) → ((x : A) → P x → Q x) → AllByRecursion P xs → AllByRecursion Q xs
all-map P Q [] f all = tt
all-map P Q (x ∷ xs) f all = (f x all.0, all-map P Q xs f all.1)

pub all-join : {A : Type 0} (P : A → Type 0) (xs ys : List A) → AllByRecursion P xs → AllByRecursion P ys → AllByRecursion P (xs ++ ys)
all-join P [] ys a b = b
all-join P (x ∷ xs) ys a b = (a.0, all-join P xs ys a.1 b)

pub all-mapped : {A B : Type 0} (P : B → Type 0) (f : A → B) (xs : List A) → AllByRecursion (λ x. P (f x)) xs → AllByRecursion P (map f xs)
all-mapped P f [] all = tt
all-mapped P f (x ∷ xs) all = (all.0, all-mapped P f xs all.1)

pub all-or : {A : Type 0} (P : A → Type 0) (xs : List A) (i : ℕ) (d : A) → AllByRecursion P xs → P d → P (slice_index_or xs i d)
all-or P [] i d all p = p
all-or P (x ∷ xs) zero d all p = all.0
all-or P (x ∷ xs) (suc i) d all p = all-or P xs i d all.1 p

pub filter-all : {A : Type 0} (P : A → Type 0) (f : A → Bool) (xs : List A) → AllByRecursion P xs → AllByRecursion P (filter f xs)
filter-all P f [] all = tt
filter-all P f (x ∷ xs) all = by (filter-all P f xs all.1) (f x)
  where
    by : AllByRecursion P (filter f xs) → (b : Bool) → AllByRecursion P (cond b (x ∷ filter f xs) (filter f xs))
    by rec true = (all.0, rec)
    by rec false = rec

-- what is found has the fact of all, and passes the test
pub found-has : {A : Type 0} (P : A → Type 0) (f : A → Bool) (xs : List A) (x : A) → AllByRecursion P xs → find f xs ≡ Some x → P x × (f x ≡ true)
found-has P f [] x all e = absurd (no e)
  where
    no : None ≡ Some x → ⊥
    no h = cc
found-has P f (y ∷ xs) x all e = by (found-has P f xs x all.1) (f y) refl e
  where
    by : (find f xs ≡ Some x → P x × (f x ≡ true)) → (b : Bool) → f y ≡ b → cond b (Some y) (find f xs) ≡ Some x → P x × (f x ≡ true)
    by rec true g h = let same_it : y ≡ x = ap (elim [ None ↦ y | Some z ↦ z ]) h in (subst P same_it all.0, ap f (sym same_it) ∙ g)
    by rec false g h = rec h

-- ---- lists that ascend

-- the text stands below the first of the list, where there is one
abbrev pub heads : List ℕ → List (List ℕ) → Bool
heads x [] = true
heads x (y ∷ ys) = is_below x y

pub ascends-cons : (x : List ℕ) (ys : List (List ℕ)) → heads x ys ≡ true → ascends ys ≡ true → ascends (x ∷ ys) ≡ true
ascends-cons x [] h a = refl
ascends-cons x (y ∷ ys) h a = and-both _ _ h a

pub ascends-head : (x : List ℕ) (ys : List (List ℕ)) → ascends (x ∷ ys) ≡ true → heads x ys ≡ true
ascends-head x [] a = refl
ascends-head x (y ∷ ys) a = and-left _ _ a

pub ascends-tail : (x : List ℕ) (ys : List (List ℕ)) → ascends (x ∷ ys) ≡ true → ascends ys ≡ true
ascends-tail x [] a = refl
ascends-tail x (y ∷ ys) a = and-right (is_below x y) _ a

-- of two different texts one is below the other
pub below-or : (x y : List ℕ) → same x y ≡ false → is_below x y ≡ false → is_below y x ≡ true
below-or x y a b = by (slice_cmp nat_cmp x y) refl
  where
    tied : same x y ≡ is_eq (slice_cmp nat_cmp x y)
    tied = lists_ties nat_cmp unsigned_ties x y

    by : (o : Ordering) → slice_cmp nat_cmp x y ≡ o → is_below y x ≡ true
    by Less e = never (sym (ap is_lt e) ∙ b)
    by Equal e = never (sym (tied ∙ ap is_eq e) ∙ a)
    by Greater e = ap is_lt (nat_list_cmp_total.antisymm y x ∙ ap ordering_reverse e)

pub below-trans : (x y z : List ℕ) → is_below x y ≡ true → is_below y z ≡ true → is_below x z ≡ true
below-trans x y z a b = ap is_lt (nat_list_cmp_total.trans x y z (below-less (slice_cmp nat_cmp x y) a) (below-less (slice_cmp nat_cmp y z) b))
  where
    below-less : (o : Ordering) → is_lt o ≡ true → o ≡ Less
    below-less Less e = refl
    below-less Equal e = never (sym e)
    below-less Greater e = never (sym e)

pub found-is : {A : Type 0} (f : A → Bool) (xs : List A) (x : A) → find f xs ≡ Some x → f x ≡ true
found-is f [] x e = none-some x e
found-is f (y ∷ xs) x e = by (found-is f xs x) (f y) refl e
  where
    by : (find f xs ≡ Some x → f x ≡ true) → (b : Bool) → f y ≡ b → cond b (Some y) (find f xs) ≡ Some x → f x ≡ true
    by rec true g h = ap f (sym (some-same y y x h)) ∙ g
    by rec false g h = rec h
