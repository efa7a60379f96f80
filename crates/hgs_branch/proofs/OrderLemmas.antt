-- Heads that stand by branch, and what a sort by branch gives.
use Rattle.std.proofs.Common.{◌≡◌, ◌<◌, ◌≤◌, ℕ, zero, suc, ◌+◌, Bool, true, false, cond, ◌&&◌, List, [], ◌∷◌, ◌++◌, append_assoc, append-nil, length, refl, sym, ◌∙◌, ap, subst, inl, inr, arith}
use Rattle.std.proofs.lemmas.List.MinMax.{ranks_by}
use Rattle.std.specs.Prelude.{if◌then◌else◌, not, slice_index_or}
use Rattle.std.specs.Cmp.{IsStrictWeakOrder}
use Rattle.std.specs.List.{filter}
use Rattle.std.specs.List.Sorted.{ties, IsSortedBy, IsStableBy}
use Rattle.std.specs.Cmp.{unsigned_ties}
use Rattle.std.specs.Cmp.Lexicographic.{slice_cmp, nat_list_cmp_total, lists_ties}
use Rattle.std.specs.Ordering.{nat_cmp, is_lt, is_eq, ordering_reverse}
use Rattle.std.specs.declared.cmp.Ordering.{Ordering}
use Rattle.std.specs.declared.cmp.Ordering.TheVariants.{Less, Equal, Greater}
use Rattle.hgs_bytes.specs.Bytes.{same, is_below}
use Rattle.hgs_bytes.specs.Theorems.ByteLemmas.{same-eq, same-refl}
use Rattle.hgs_branch.specs.Heads.{branch_at, by_branch, comes_before, with_head, StandByBranch}
use Rattle.hgs_branch.proofs.ListLemmas.{false_is, not_true}

-- ---- the order of bytes

below_or : (x y : List ℕ) → same x y ≡ false → is_below x y ≡ false → is_below y x ≡ true
below_or x y a b = by (slice_cmp nat_cmp x y) refl
  where
    tied : same x y ≡ is_eq (slice_cmp nat_cmp x y)
    tied = lists_ties nat_cmp unsigned_ties x y

    by : (o : Ordering) → slice_cmp nat_cmp x y ≡ o → is_below y x ≡ true
    by Less e = false_is (sym b ∙ ap is_lt e)
    by Equal e = false_is (sym a ∙ tied ∙ ap is_eq e)
    by Greater e = ap is_lt (nat_list_cmp_total.antisymm y x ∙ ap ordering_reverse e)

is_less : (o : Ordering) → is_lt o ≡ true → o ≡ Less
is_less Less e = refl
is_less Equal e = false_is e
is_less Greater e = false_is e

below_further : (x y z : List ℕ) → is_below x y ≡ true → is_below y z ≡ true → is_below x z ≡ true
below_further x y z a b = ap is_lt (nat_list_cmp_total.trans x y z (is_less (slice_cmp nat_cmp x y) a) (is_less (slice_cmp nat_cmp y z) b))

below_itself : (x : List ℕ) → is_below x x ≡ false
below_itself x = by (slice_cmp nat_cmp x x) (sym (lists_ties nat_cmp unsigned_ties x x) ∙ same-refl x)
  where
    by : (o : Ordering) → is_eq o ≡ true → is_lt o ≡ false
    by Less e = false_is e
    by Equal e = refl
    by Greater e = refl

not_both : (x y : List ℕ) → is_below x y ≡ true → is_below y x ≡ false
not_both x y h = not_true (is_below y x) (λ k. false_is (sym (below_itself x) ∙ below_further x y x h k))

-- ---- heads by branch

all_step : (names : List (List ℕ)) (P : ℕ → Type 0) (rev h : ℕ) (heads : List ℕ) → ((j : ℕ) → j < length (h ∷ heads) → P (slice_index_or (h ∷ heads) j 0)) → P rev → ((j : ℕ) → j < length (with_head names rev heads) → P (slice_index_or (with_head names rev heads) j 0)) →
    (b : Bool) (k : ℕ) → k < length (if b then rev ∷ h ∷ heads else h ∷ with_head names rev heads) → P (slice_index_or (if b then rev ∷ h ∷ heads else h ∷ with_head names rev heads) k 0)
all_step names P rev h heads all here deeper true zero low = here
all_step names P rev h heads all here deeper true (suc k) low = all k (omega (arith, low))
all_step names P rev h heads all here deeper false zero low = all 0 (omega arith)
all_step names P rev h heads all here deeper false (suc k) low = deeper k (omega (arith, low))

all_with : (names : List (List ℕ)) (P : ℕ → Type 0) (rev : ℕ) (heads : List ℕ) → ((j : ℕ) → j < length heads → P (slice_index_or heads j 0)) → P rev → (j : ℕ) → j < length (with_head names rev heads) → P (slice_index_or (with_head names rev heads) j 0)
all_with names P rev [] all here zero lt = here
all_with names P rev [] all here (suc j) lt = absurd (omega (arith, lt))
all_with names P rev (h ∷ heads) all here j lt =
    all_step names P rev h heads all here (all_with names P rev heads (λ k low. all (suc k) (omega (arith, low))) here) (is_below (branch_at names rev) (branch_at names h)) j lt

pub order_with : (names : List (List ℕ)) (rev : ℕ) (heads : List ℕ) → StandByBranch names heads → StandByBranch names (with_head names rev heads)
order_with names rev [] o = (λ j lt. absurd (omega (arith, lt)), tt)
order_with names rev (h ∷ heads) o = by (is_below (branch_at names rev) (branch_at names h)) refl (order_with names rev heads o.1)
  where
    front : is_below (branch_at names rev) (branch_at names h) ≡ true → (j : ℕ) → j < length (h ∷ heads) → is_below (branch_at names (slice_index_or (h ∷ heads) j 0)) (branch_at names rev) ≡ false
    front e zero lt = not_both (branch_at names rev) (branch_at names h) e
    front e (suc j) lt = not_true (is_below (branch_at names (slice_index_or heads j 0)) (branch_at names rev)) (λ k.
        false_is (sym (o.0 j (omega (arith, lt))) ∙ below_further (branch_at names (slice_index_or heads j 0)) (branch_at names rev) (branch_at names h) k e))

    by : (b : Bool) → is_below (branch_at names rev) (branch_at names h) ≡ b → StandByBranch names (with_head names rev heads) → StandByBranch names (if b then rev ∷ h ∷ heads else h ∷ with_head names rev heads)
    by true e rest = (front e, o)
    by false e rest = (all_with names (λ x. is_below (branch_at names x) (branch_at names h) ≡ false) rev heads o.0 e, rest)

pub order_when : (names : List (List ℕ)) (test : Bool) (rev : ℕ) (heads next : List ℕ) → next ≡ (if test then with_head names rev heads else heads) → StandByBranch names heads → StandByBranch names next
order_when names true rev heads next is o = subst (StandByBranch names) (sym is) (order_with names rev heads o)
order_when names false rev heads next is o = subst (StandByBranch names) (sym is) o

-- ---- the sort

module _ (names : List (List ℕ)) where
  weak : IsStrictWeakOrder (comes_before names)
  weak = ranks_by nat_list_cmp_total (branch_at names)

  before_itself : (x : ℕ) → comes_before names x x ≡ false
  before_itself x = below_itself (branch_at names x)

  -- from neighbours to all
  behind_first : (heads : List ℕ) (head : ℕ) → ((k : ℕ) (d : ℕ) → k + 1 < length (head ∷ heads) → comes_before names (slice_index_or (head ∷ heads) (k + 1) d) (slice_index_or (head ∷ heads) k d) ≡ false) → (j : ℕ) → j < length heads → comes_before names (slice_index_or heads j 0) head ≡ false
  behind_first heads head h zero lt = h 0 0 (omega (arith, lt))
  behind_first heads head h (suc j) lt =
      (weak).chain (slice_index_or heads (suc j) 0) (slice_index_or heads j 0) head (by (h (suc j) 0 (omega (arith, lt)))) (behind_first heads head h j (omega (arith, lt)))
    where
      by : comes_before names (slice_index_or (head ∷ heads) (suc j + 1) 0) (slice_index_or (head ∷ heads) (suc j) 0) ≡ false → comes_before names (slice_index_or heads (suc j) 0) (slice_index_or heads j 0) ≡ false
      by e = let same : suc j + 1 ≡ suc (suc j) = omega arith in subst (λ k. comes_before names (slice_index_or (head ∷ heads) k 0) (slice_index_or heads j 0) ≡ false) same e

  neighbours_stand : (heads : List ℕ) → ((k : ℕ) (d : ℕ) → k + 1 < length heads → comes_before names (slice_index_or heads (k + 1) d) (slice_index_or heads k d) ≡ false) → StandByBranch names heads
  neighbours_stand [] h = tt
  neighbours_stand (head ∷ heads) h = (behind_first heads head h, neighbours_stand heads (λ k d lt. subst (λ i. comes_before names (slice_index_or (head ∷ heads) i d) (slice_index_or heads k d) ≡ false) (next k) (h (suc k) d (omega (arith, lt)))))
    where
      next : (k : ℕ) → suc k + 1 ≡ suc (k + 1)
      next k = omega arith

  pub sorted_stand : (heads : List ℕ) → IsSortedBy (comes_before names) heads → StandByBranch names heads
  sorted_stand heads s = neighbours_stand heads (λ k d lt. s k d (omega arith) lt)

  -- ---- those of one branch

  abbrev of_branch : ℕ → ℕ → Bool
  of_branch x = ties (comes_before names) x

  ties_not : (a b : Bool) → (not a && not b) ≡ true → (a ≡ false) × (b ≡ false)
  ties_not true b h = false_is h
  ties_not false true h = false_is h
  ties_not false false h = (refl, refl)

  filter_none : (t : ℕ → Bool) (heads : List ℕ) → ((j : ℕ) → j < length heads → t (slice_index_or heads j 0) ≡ false) → filter t heads ≡ []
  filter_none t [] h = refl
  filter_none t (x ∷ heads) h = ap (λ b. cond b (x ∷ filter t heads) (filter t heads)) (h 0 (omega arith)) ∙ filter_none t heads (λ j lt. h (suc j) (omega (arith, lt)))

  -- where a branch comes before the first none of it stands behind
  none_behind : (x rev head : ℕ) (heads : List ℕ) → comes_before names rev head ≡ true → of_branch x rev ≡ true → StandByBranch names (head ∷ heads) → filter (of_branch x) (head ∷ heads) ≡ []
  none_behind x rev head heads below same o = filter_none (of_branch x) (head ∷ heads) none
    where
      r : (comes_before names x rev ≡ false) × (comes_before names rev x ≡ false)
      r = ties_not (comes_before names x rev) (comes_before names rev x) same

      apart : (w : ℕ) → comes_before names w head ≡ false → of_branch x w ≡ false
      apart w after = not_true (of_branch x w) (λ e.
          let t = ties_not (comes_before names x w) (comes_before names w x) e in
          false_is (sym ((weak).chain rev w head ((weak).chain rev x w r.1 t.0) after) ∙ below))

      none : (j : ℕ) → j < length (head ∷ heads) → of_branch x (slice_index_or (head ∷ heads) j 0) ≡ false
      none zero lt = apart head (before_itself head)
      none (suc j) lt = apart (slice_index_or heads j 0) (o.0 j (omega (arith, lt)))

  filter_one : (t : ℕ → Bool) (x : ℕ) (xs : List ℕ) → filter t (x ∷ xs) ≡ filter t (x ∷ []) ++ filter t xs
  filter_one t x xs = by (t x)
    where
      by : (b : Bool) → cond b (x ∷ filter t xs) (filter t xs) ≡ cond b (x ∷ []) [] ++ filter t xs
      by true = refl
      by false = refl

  filter_with : (x rev : ℕ) (heads : List ℕ) → StandByBranch names heads → filter (of_branch x) (with_head names rev heads) ≡ filter (of_branch x) heads ++ filter (of_branch x) (rev ∷ [])
  filter_with x rev [] o = refl
  filter_with x rev (head ∷ heads) o = by (comes_before names rev head) refl (filter_with x rev heads o.1)
    where
      t : ℕ → Bool
      t = of_branch x

      ahead : comes_before names rev head ≡ true → (b : Bool) → t rev ≡ b → filter t (rev ∷ head ∷ heads) ≡ filter t (head ∷ heads) ++ filter t (rev ∷ [])
      ahead e true own =
          let none = none_behind x rev head heads e own o in
          ap (λ b. cond b (rev ∷ filter t (head ∷ heads)) (filter t (head ∷ heads))) own ∙ ap (λ l. rev ∷ l) none ∙ sym (ap (λ l. l ++ filter t (rev ∷ [])) none ∙ ap (λ b. cond b (rev ∷ []) []) own)
      ahead e false other =
          ap (λ b. cond b (rev ∷ filter t (head ∷ heads)) (filter t (head ∷ heads))) other ∙ sym (ap (λ b. filter t (head ∷ heads) ++ cond b (rev ∷ []) []) other ∙ append-nil (filter t (head ∷ heads)))

      by : (b : Bool) → comes_before names rev head ≡ b → filter t (with_head names rev heads) ≡ filter t heads ++ filter t (rev ∷ []) → filter t (if b then rev ∷ head ∷ heads else head ∷ with_head names rev heads) ≡ filter t (head ∷ heads) ++ filter t (rev ∷ [])
      by true e further = ahead e (t rev) refl
      by false e further =
          filter_one t head (with_head names rev heads) ∙ ap (λ l. filter t (head ∷ []) ++ l) further ∙ sym (append_assoc (filter t (head ∷ [])) (filter t heads) (filter t (rev ∷ [])))
          ∙ ap (λ l. l ++ filter t (rev ∷ [])) (sym (filter_one t head heads))

  filter_by : (x : ℕ) (test : ℕ → Bool) (heads revs : List ℕ) → StandByBranch names heads → filter (of_branch x) (by_branch test names heads revs) ≡ filter (of_branch x) heads ++ filter (of_branch x) (filter test revs)
  filter_by x test heads [] o = sym (append-nil (filter (of_branch x) heads))
  filter_by x test heads (rev ∷ revs) o = by (test rev) (λ next p. filter_by x test next revs p)
    where
      t : ℕ → Bool
      t = of_branch x

      by : (b : Bool) → ((next : List ℕ) → StandByBranch names next → filter t (by_branch test names next revs) ≡ filter t next ++ filter t (filter test revs)) → filter t (by_branch test names (if b then with_head names rev heads else heads) revs) ≡ filter t heads ++ filter t (cond b (rev ∷ filter test revs) (filter test revs))
      by true further =
          further (with_head names rev heads) (order_with names rev heads o) ∙ ap (λ l. l ++ filter t (filter test revs)) (filter_with x rev heads o) ∙ append_assoc (filter t heads) (filter t (rev ∷ [])) (filter t (filter test revs))
          ∙ ap (λ l. filter t heads ++ l) (sym (filter_one t rev (filter test revs)))
      by false further = further heads o

  stand_by : (test : ℕ → Bool) (heads revs : List ℕ) → StandByBranch names heads → StandByBranch names (by_branch test names heads revs)
  stand_by test heads [] o = o
  stand_by test heads (rev ∷ revs) o = stand_by test (if test rev then with_head names rev heads else heads) revs (order_when names (test rev) rev heads (if test rev then with_head names rev heads else heads) refl o)

  -- ---- one order

  ties_itself : (x : ℕ) → of_branch x x ≡ true
  ties_itself x = ap (λ b. not b && not b) (before_itself x)

  first_own : (x : ℕ) (xs : List ℕ) → filter (of_branch x) (x ∷ xs) ≡ x ∷ filter (of_branch x) xs
  first_own x xs = ap (λ b. cond b (x ∷ filter (of_branch x) xs) (filter (of_branch x) xs)) (ties_itself x)

  first_is : (y z : ℕ) (ys zs : List ℕ) → y ∷ ys ≡ z ∷ zs → y ≡ z
  first_is y z ys zs e = cc

  rest_is : (y z : ℕ) (ys zs : List ℕ) → y ∷ ys ≡ z ∷ zs → ys ≡ zs
  rest_is y z ys zs e = cc

  not_empty : {A : Type 0} (y : ℕ) (ys : List ℕ) → y ∷ ys ≡ [] → A
  not_empty y ys e = absurd (no e)
    where
      no : y ∷ ys ≡ [] → ⊥
      no k = cc

  firsts_same : (y z : ℕ) (ys zs : List ℕ) → StandByBranch names (y ∷ ys) → StandByBranch names (z ∷ zs) → ((x : ℕ) → filter (of_branch x) (y ∷ ys) ≡ filter (of_branch x) (z ∷ zs)) → y ≡ z
  firsts_same y z ys zs o p h = by (comes_before names y z) (comes_before names z y) refl refl
    where
      by : (a b : Bool) → comes_before names y z ≡ a → comes_before names z y ≡ b → y ≡ z
      by true b e f = not_empty y (filter (of_branch y) ys) (sym (first_own y ys) ∙ h y ∙ none_behind y y z zs e (ties_itself y) p)
      by false true e f = not_empty z (filter (of_branch z) zs) (sym (first_own z zs) ∙ sym (h z) ∙ none_behind z z y ys f (ties_itself z) o)
      by false false e f =
          first_is y z (filter (of_branch y) ys) (filter (of_branch y) zs) (sym (first_own y ys) ∙ h y ∙ ap (λ b. cond b (z ∷ filter (of_branch y) zs) (filter (of_branch y) zs)) (ap (λ b. not b && not (comes_before names z y)) e ∙ ap (λ b. not false && not b) f))

  one_order : (ys zs : List ℕ) → StandByBranch names ys → StandByBranch names zs → ((x : ℕ) → filter (of_branch x) ys ≡ filter (of_branch x) zs) → ys ≡ zs
  one_order [] [] o p h = refl
  one_order [] (z ∷ zs) o p h = not_empty z (filter (of_branch z) zs) (sym (first_own z zs) ∙ sym (h z))
  one_order (y ∷ ys) [] o p h = not_empty y (filter (of_branch y) ys) (sym (first_own y ys) ∙ h y)
  one_order (y ∷ ys) (z ∷ zs) o p h =
      let same = firsts_same y z ys zs o p h in
      ap (λ x. x ∷ ys) same ∙ ap (λ l. z ∷ l) (one_order ys zs o.1 p.1 (λ x. rest x (of_branch x z) (ap (λ w. filter (of_branch x) (w ∷ ys)) (sym same) ∙ h x)))
    where
      rest : (x : ℕ) (b : Bool) → cond b (z ∷ filter (of_branch x) ys) (filter (of_branch x) ys) ≡ cond b (z ∷ filter (of_branch x) zs) (filter (of_branch x) zs) → filter (of_branch x) ys ≡ filter (of_branch x) zs
      rest x true e = rest_is z z (filter (of_branch x) ys) (filter (of_branch x) zs) e
      rest x false e = e

  -- what a stable sort of those that pass a test gives
  pub sorted_is : (test : ℕ → Bool) (revs old new : List ℕ) → old ≡ filter test revs → StandByBranch names new → IsStableBy (comes_before names) old new → new ≡ by_branch test names [] revs
  sorted_is test revs old new are o stable = one_order new (by_branch test names [] revs) o (stand_by test [] revs tt) (λ x. stable x ∙ ap (filter (of_branch x)) are ∙ sym (filter_by x test [] revs tt))
