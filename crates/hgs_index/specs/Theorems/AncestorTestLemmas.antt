-- The test of ancestors decides the relation.
use Rattle.std.proofs.Common.{◌≡◌, ◌⊎◌, ℕ, zero, suc, ◌+◌, ◌<◌, List, [], ◌∷◌, ◌++◌, Bool, true, false, ◌||◌, length, refl, sym, ◌∙◌, ap, subst, inl, inr, arith, append_assoc, length-append}
use Rattle.std.specs.Prelude.{Option, Some, None, IfSome, slice_get, slice_index_or, ◌==◌}
use Rattle.std.specs.List.{list_any}
use Rattle.std.proofs.lemmas.Bool.Decides.{nat_tests}
use Rattle.hgs_index.specs.Revision.{Parents, ParentsBefore}
use Rattle.hgs_index.specs.Ancestor.{IsAncestor, itself, of_parent, ancestors_at, ancestors_from, is_ancestor}

abbrev pub member : ℕ → List ℕ → Bool
member a xs = list_any (λ x. x == a) xs

same-number : (a : ℕ) → (a == a) ≡ true
same-number a = grind (arith, nat_tests)

number-same : (a b : ℕ) → (a == b) ≡ true → a ≡ b
number-same a b e = grind (arith, nat_tests)

or-cases : (a b : Bool) → (a || b) ≡ true → (a ≡ true) ⊎ (b ≡ true)
or-cases true b h = inl refl
or-cases false b h = inr h

or-left : (a b : Bool) → a ≡ true → (a || b) ≡ true
or-left true b h = refl
or-left false b h = absurd (no_case h)
  where
    no_case : false ≡ true → ⊥
    no_case k = cc

or-right : (a b : Bool) → b ≡ true → (a || b) ≡ true
or-right true b h = refl
or-right false b h = h

pub member-append : (a : ℕ) (xs ys : List ℕ) → member a (xs ++ ys) ≡ (member a xs || member a ys)
member-append a [] ys = refl
member-append a (x ∷ xs) ys = ap (λ b. (x == a) || b) (member-append a xs ys) ∙ or-assoc (x == a) (member a xs) (member a ys)
  where
    or-assoc : (p q r : Bool) → (p || (q || r)) ≡ ((p || q) || r)
    or-assoc true q r = refl
    or-assoc false q r = refl

get-append : {A : Type 0} (xs : List A) (x : A) (ys : List A) → slice_get (xs ++ x ∷ ys) (length xs) ≡ Some x
get-append [] x ys = refl
get-append (z ∷ xs) x ys = get-append xs x ys

index-left : (xs : List (List ℕ)) (y : List ℕ) (b : ℕ) → b < length xs → slice_index_or (xs ++ y ∷ []) b [] ≡ slice_index_or xs b []
index-left [] y b lt = absurd (omega arith)
index-left (x ∷ xs) y zero lt = refl
index-left (x ∷ xs) y (suc b) lt = index-left xs y b (omega arith)

index-last : (xs : List (List ℕ)) (y : List ℕ) → slice_index_or (xs ++ y ∷ []) (length xs) [] ≡ y
index-last [] y = refl
index-last (x ∷ xs) y = index-last xs y

some-same : {A : Type 0} (d x y : A) → Some x ≡ Some y → x ≡ y
some-same d x y e = ap (elim [ None ↦ d | Some z ↦ z ]) e

-- the rows that are there say who is an ancestor
pub record Says (history : List Parents) (known : List (List ℕ)) : Type 0 where
  pub sound : (a b : ℕ) → b < length known → member a (slice_index_or known b []) ≡ true → IsAncestor history a b
  pub complete : (a b : ℕ) → b < length known → IsAncestor history a b → member a (slice_index_or known b []) ≡ true

at-sound : (history : List Parents) (known : List (List ℕ)) → Says history known → (a : ℕ) (p : Option ℕ) → IfSome p (λ q. q < length known) → member a (ancestors_at known p) ≡ true → (q : ℕ) × (p ≡ Some q) × IsAncestor history a q
at-sound history known says a None lt m = absurd (no_case m)
  where
    no_case : false ≡ true → ⊥
    no_case k = cc
at-sound history known says a (Some q) lt m = (q, refl, says.sound a q lt m)

at-complete : (history : List Parents) (known : List (List ℕ)) → Says history known → (a q : ℕ) (p : Option ℕ) → IfSome p (λ k. k < length known) → p ≡ Some q → IsAncestor history a q → member a (ancestors_at known p) ≡ true
at-complete history known says a q p lt e h =
    let lt' : q < length known = subst (λ o. IfSome o (λ k. k < length known)) e lt in
    ap (λ o. member a (ancestors_at known o)) e ∙ says.complete a q lt' h

-- one more row
module _ (history front more : List Parents) (p : Parents) (known : List (List ℕ)) (whole : history ≡ front ++ p ∷ more) (count : length known ≡ length front) (says : Says history known)
    (first : IfSome p.0 (λ a. a < length known)) (second : IfSome p.1 (λ b. b < length known)) where
  here : slice_get history (length known) ≡ Some p
  here = ap (λ h. slice_get h (length known)) whole ∙ ap (slice_get (front ++ p ∷ more)) count ∙ get-append front p more

  row : List ℕ
  row = length known ∷ ancestors_at known p.0 ++ ancestors_at known p.1

  row-sound : (a : ℕ) → member a (length known ∷ ancestors_at known p.0 ++ ancestors_at known p.1) ≡ true → IsAncestor history a (length known)
  row-sound a m = elim (or-cases (length known == a) _ m) [
    | inl e ↦ subst (λ x. IsAncestor history x (length known)) (number-same (length known) a e) itself
    | inr e ↦ elim (or-cases (member a (ancestors_at known p.0)) (member a (ancestors_at known p.1)) (sym (member-append a (ancestors_at known p.0) (ancestors_at known p.1)) ∙ e)) [
      | inl l ↦ let q = at-sound history known says a p.0 first l in of_parent (p, here, inl q.1) q.2
      | inr r ↦ let q = at-sound history known says a p.1 second r in of_parent (p, here, inr q.1) q.2
    ]
  ]

  row-complete : (a b : ℕ) → b ≡ length known → IsAncestor history a b → member a (length known ∷ ancestors_at known p.0 ++ ancestors_at known p.1) ≡ true
  row-complete a _ e itself = or-left (length known == a) _ (ap (λ x. length known == x) e ∙ same-number (length known))
  row-complete a b e (of_parent {p = q} is h) =
      let same : is.0 ≡ p = some-same p is.0 p (sym is.1 ∙ ap (slice_get history) e ∙ here) in
      or-right (length known == a) _ (member-append a (ancestors_at known p.0) (ancestors_at known p.1) ∙ elim is.2 [
        | inl l ↦ or-left (member a (ancestors_at known p.0)) (member a (ancestors_at known p.1)) (at-complete history known says a q p.0 first (sym (ap (λ x. x.0) same) ∙ l) h)
        | inr r ↦ or-right (member a (ancestors_at known p.0)) (member a (ancestors_at known p.1)) (at-complete history known says a q p.1 second (sym (ap (λ x. x.1) same) ∙ r) h)
      ])

  below-or-here : (b : ℕ) → b < length (known ++ (length known ∷ ancestors_at known p.0 ++ ancestors_at known p.1) ∷ []) → (b < length known) ⊎ (b ≡ length known)
  below-or-here b lt = by (length known) b (omega (arith, length-append known ((length known ∷ ancestors_at known p.0 ++ ancestors_at known p.1) ∷ [])))
    where
      by : (n k : ℕ) → k < n + 1 → (k < n) ⊎ (k ≡ n)
      by zero zero l = inr refl
      by zero (suc k) l = absurd (omega arith)
      by (suc n) zero l = inl (omega arith)
      by (suc n) (suc k) l = elim (by n k (omega arith)) [ inl x ↦ inl (omega arith) | inr x ↦ inr (ap suc x) ]

  pub says-more : Says history (known ++ (length known ∷ ancestors_at known p.0 ++ ancestors_at known p.1) ∷ [])
  says-more = record {
    sound = λ a b lt m. elim (below-or-here b lt) [
      | inl l ↦ says.sound a b l (ap (member a) (sym (index-left known _ b l)) ∙ m)
      | inr e ↦ subst (IsAncestor history a) (sym e) (row-sound a (ap (member a) (sym (ap (λ k. slice_index_or (known ++ (length known ∷ ancestors_at known p.0 ++ ancestors_at known p.1) ∷ []) k []) e ∙ index-last known _)) ∙ m))
    ];
    complete = λ a b lt h. elim (below-or-here b lt) [
      | inl l ↦ ap (member a) (index-left known _ b l) ∙ says.complete a b l h
      | inr e ↦ ap (member a) (ap (λ k. slice_index_or (known ++ (length known ∷ ancestors_at known p.0 ++ ancestors_at known p.1) ∷ []) k []) e ∙ index-last known _) ∙ row-complete a b e h
    ];
  }

table-says : (history front more : List Parents) (known : List (List ℕ)) → history ≡ front ++ more → length known ≡ length front → ParentsBefore (length known) more → Says history known → Says history (ancestors_from known more)
table-says history front [] known whole count earlier says = says
table-says history front (p ∷ more) known whole count earlier says =
    table-says history (front ++ p ∷ []) more (known ++ (length known ∷ ancestors_at known p.0 ++ ancestors_at known p.1) ∷ [])
    (whole ∙ sym (append_assoc front (p ∷ []) more))
    (omega (arith, count, length-append front (p ∷ []), length-append known ((length known ∷ ancestors_at known p.0 ++ ancestors_at known p.1) ∷ [])))
    (subst (λ n. ParentsBefore n more) (omega (arith, length-append known ((length known ∷ ancestors_at known p.0 ++ ancestors_at known p.1) ∷ []))) earlier.2)
    (says-more history front more p known whole count says earlier.0 earlier.1)

length-table : (known : List (List ℕ)) (more : List Parents) → length (ancestors_from known more) ≡ length known + length more
length-table known [] = omega arith
length-table known (p ∷ more) = omega (arith, length-table (known ++ (length known ∷ ancestors_at known p.0 ++ ancestors_at known p.1) ∷ []) more, length-append known ((length known ∷ ancestors_at known p.0 ++ ancestors_at known p.1) ∷ []))

-- Where parents come before their children, the test says exactly who is an ancestor.
pub is_ancestor-decides : (history : List Parents) → ParentsBefore 0 history → (a b : ℕ) → b < length history → (is_ancestor history a b ≡ true → IsAncestor history a b) × (IsAncestor history a b → is_ancestor history a b ≡ true)
is_ancestor-decides history earlier a b lt =
    let says = table-says history [] history [] refl refl earlier (record { sound = λ x y l m. absurd (omega arith); complete = λ x y l h. absurd (omega arith) }) in
    let here : b < length (ancestors_from [] history) = omega (arith, length-table [] history) in
    (says.sound a b here, says.complete a b here)
