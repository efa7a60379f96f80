-- Truth values, options, equal bytes, and lists.
use Rattle.std.proofs.Common.{◌≡◌, ◌⊎◌, ℕ, zero, suc, ◌<◌, List, [], ◌∷◌, ◌++◌, Bool, true, false, cond, ◌&&◌, Some, None, length, refl, sym, ◌∙◌, ap, subst, inl, inr, arith}
use Rattle.std.specs.Prelude.{find, slice_get}
use Rattle.std.specs.Cmp.Lexicographic.{bytes_decides, nat_list_cmp_total, slice_cmp, lists_ties}
use Rattle.std.specs.Cmp.{unsigned_ties}
use Rattle.std.specs.List.{AllByRecursion}
use Rattle.std.specs.Ordering.{nat_cmp, is_lt, is_eq, ordering_reverse}
use Rattle.std.specs.declared.cmp.Ordering.{Ordering}
use Rattle.std.specs.declared.cmp.Ordering.TheVariants.{Less, Equal, Greater}
use Rattle.hgs_bytes.specs.Bytes.{same, is_below, IsPrefixOf}
use Rattle.hgs_index.specs.Revision.{Revision}
use Rattle.hgs_model.specs.History.{text_at}

pub bool : (b : Bool) → (b ≡ true) ⊎ (b ≡ false)
bool true = inl refl
bool false = inr refl

pub never : {A : Type 0} → true ≡ false → A
never e = absurd (no_case e)
  where
    no_case : true ≡ false → ⊥
    no_case h = cc

pub and-left : (a b : Bool) → (a && b) ≡ true → a ≡ true
and-left true b e = refl
and-left false b e = e

pub and-right : (a b : Bool) → (a && b) ≡ true → b ≡ true
and-right true b e = e
and-right false b e = never (sym e)

pub some-same : {A : Type 0} (d x y : A) → Some x ≡ Some y → x ≡ y
some-same d x y e = ap (elim [ None ↦ d | Some z ↦ z ]) e

pub none-some : {A B : Type 0} (x : A) → None ≡ Some x → B
none-some x e = absurd (no e)
  where
    no : None ≡ Some x → ⊥
    no h = cc

pub same-refl : (x : List ℕ) → same x x ≡ true
same-refl x = (bytes_decides x x).1 refl

pub same-eq : (x y : List ℕ) → same x y ≡ true → x ≡ y
same-eq x y e = (bytes_decides x y).0 e

-- of two different texts one is below the other
pub below-or : (x y : List ℕ) → same x y ≡ false → is_below x y ≡ false → is_below y x ≡ true
below-or x y a b = by (slice_cmp nat_cmp x y) refl
  where
    tied : same x y ≡ is_eq (slice_cmp nat_cmp x y)
    tied = lists_ties nat_cmp unsigned_ties x y

    by : (o : Ordering) → slice_cmp nat_cmp x y ≡ o → is_below y x ≡ true
    by Less e = never (sym (ap is_lt e) ∙ b)
    by Equal e = never (sym (tied ∙ ap is_eq e) ∙ a)
    by Greater e = ap is_lt (nat_list_cmp_total.antisymm y x ∙ ap ordering_reverse e)

pub below-trans : (x y z : List ℕ) → is_below x y ≡ true → is_below y z ≡ true → is_below x z ≡ true
below-trans x y z a b = ap is_lt (nat_list_cmp_total.trans x y z (below-less (slice_cmp nat_cmp x y) a) (below-less (slice_cmp nat_cmp y z) b))
  where
    below-less : (o : Ordering) → is_lt o ≡ true → o ≡ Less
    below-less Less e = refl
    below-less Equal e = never (sym e)
    below-less Greater e = never (sym e)

-- ---- lists

pub all-push : {A : Type 0} (P : A → Type 0) (xs : List A) (x : A) → AllByRecursion P xs → P x → AllByRecursion P (xs ++ x ∷ [])
all-push P [] x all p = (p, tt)
all-push P (y ∷ xs) x all p = (all.0, all-push P xs x all.1 p)

-- what is found has the fact of all, and passes the test
pub found-has : {A : Type 0} (P : A → Type 0) (f : A → Bool) (xs : List A) (x : A) → AllByRecursion P xs → find f xs ≡ Some x → P x × (f x ≡ true)
found-has P f [] x all e = none-some x e
found-has P f (y ∷ xs) x all e = by (found-has P f xs x all.1) (f y) refl e
  where
    by : (find f xs ≡ Some x → P x × (f x ≡ true)) → (b : Bool) → f y ≡ b → cond b (Some y) (find f xs) ≡ Some x → P x × (f x ≡ true)
    by rec true g h = let same_it : y ≡ x = some-same y y x h in (subst P same_it all.0, ap f (sym same_it) ∙ g)
    by rec false g h = rec h

get-front : {A : Type 0} (xs ys : List A) (rev : ℕ) (x : A) → slice_get xs rev ≡ Some x → slice_get (xs ++ ys) rev ≡ Some x
get-front [] ys rev x e = cc
get-front (y ∷ xs) ys zero x e = e
get-front (y ∷ xs) ys (suc rev) x e = get-front xs ys rev x e

pub slice_get-front : {A : Type 0} (xs ys : List A) → IsPrefixOf xs ys → (rev : ℕ) (x : A) → slice_get xs rev ≡ Some x → slice_get ys rev ≡ Some x
slice_get-front xs ys p rev x e = ap (λ l. slice_get l rev) p.1 ∙ get-front xs p.0 rev x e

pub slice_get-last : {A : Type 0} (xs : List A) (x : A) → slice_get (xs ++ x ∷ []) (length xs) ≡ Some x
slice_get-last [] x = refl
slice_get-last (y ∷ xs) x = slice_get-last xs x

-- a number below the count is that of a revision
pub there : (revs : List Revision) (rev : ℕ) → rev < length revs → (r : Revision) × (slice_get revs rev ≡ Some r) × (r.text ≡ text_at revs rev)
there [] rev lt = absurd (omega (arith, lt))
there (r ∷ revs) zero lt = (r, refl, refl)
there (r ∷ revs) (suc rev) lt = there revs rev (omega (arith, lt))
