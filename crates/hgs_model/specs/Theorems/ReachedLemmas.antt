-- A walk along the parents marks exactly the revisions that the definition of ancestors names.
use Rattle.std.proofs.Common.{◌≡◌, ℕ, zero, suc, ◌+◌, ◌-◌, ◌<◌, ◌≤◌, List, [], ◌∷◌, ◌++◌, Bool, true, false, ◌||◌, length, replicate, take, drop, map, refl, sym, ◌∙◌, ap, subst, arith, length-append, append-nil}
use Rattle.std.proofs.lemmas.List.{get_or_default, get_or-append_right, length-drop, length-take-le, length-replicate, replicate_more, drop-take}
use Rattle.std.proofs.lemmas.Bool.Decides.{nat_tests}
use Rattle.std.specs.Prelude.{Option, Some, None, slice_index_or, ◌==◌}
use Rattle.std.specs.List.{list_any}
use Rattle.hgs_index.specs.Revision.{Parents, ParentsBefore}
use Rattle.hgs_index.specs.Ancestor.{ancestors_at, ancestors_from, is_ancestor}
use Rattle.hgs_model.specs.Reached.{reached_at, reaches}

-- the marks after these revisions, from those before them
abbrev pub marks_from : ℕ → List Bool → List Parents → List Bool
marks_from a marks [] = marks
marks_from a marks (p ∷ history) = marks_from a (marks ++ reaches marks a p ∷ []) history

abbrev among_ancestors : ℕ → List ℕ → Bool
among_ancestors a ancestors = list_any (λ x. x == a) ancestors

or-assoc : (p q r : Bool) → (p || (q || r)) ≡ ((p || q) || r)
or-assoc true q r = refl
or-assoc false q r = refl

any-append : (a : ℕ) (xs ys : List ℕ) → among_ancestors a (xs ++ ys) ≡ (among_ancestors a xs || among_ancestors a ys)
any-append a [] ys = refl
any-append a (x ∷ xs) ys = ap (λ b. (x == a) || b) (any-append a xs ys) ∙ or-assoc (x == a) (among_ancestors a xs) (among_ancestors a ys)

index-map : (a : ℕ) (known : List (List ℕ)) (rev : ℕ) → slice_index_or (map (among_ancestors a) known) rev false ≡ among_ancestors a (slice_index_or known rev [])
index-map a [] rev = refl
index-map a (x ∷ known) zero = refl
index-map a (x ∷ known) (suc rev) = index-map a known rev

at-map : (a : ℕ) (known : List (List ℕ)) (p : Option ℕ) → reached_at (map (among_ancestors a) known) p ≡ among_ancestors a (ancestors_at known p)
at-map a known None = refl
at-map a known (Some rev) = index-map a known rev

map-push : (a : ℕ) (known : List (List ℕ)) (x : List ℕ) → map (among_ancestors a) (known ++ x ∷ []) ≡ map (among_ancestors a) known ++ among_ancestors a x ∷ []
map-push a [] x = refl
map-push a (y ∷ known) x = ap (λ l. among_ancestors a y ∷ l) (map-push a known x)

length-marks : (a : ℕ) (known : List (List ℕ)) → length (map (among_ancestors a) known) ≡ length known
length-marks a [] = refl
length-marks a (x ∷ known) = ap suc (length-marks a known)

mark-row : (a : ℕ) (known : List (List ℕ)) (p : Parents) → reaches (map (among_ancestors a) known) a p ≡ among_ancestors a (length known ∷ ancestors_at known p.0 ++ ancestors_at known p.1)
mark-row a known p =
    ap (λ n. (n == a) || (reached_at (map (among_ancestors a) known) p.0 || reached_at (map (among_ancestors a) known) p.1)) (length-marks a known)
    ∙ ap (λ b. (length known == a) || (b || reached_at (map (among_ancestors a) known) p.1)) (at-map a known p.0)
    ∙ ap (λ b. (length known == a) || (among_ancestors a (ancestors_at known p.0) || b)) (at-map a known p.1)
    ∙ ap (λ b. (length known == a) || b) (sym (any-append a (ancestors_at known p.0) (ancestors_at known p.1)))

marks-table : (a : ℕ) (known : List (List ℕ)) (history : List Parents) → marks_from a (map (among_ancestors a) known) history ≡ map (among_ancestors a) (ancestors_from known history)
marks-table a known [] = refl
marks-table a known (p ∷ history) =
    ap (λ b. marks_from a (map (among_ancestors a) known ++ b ∷ []) history) (mark-row a known p)
    ∙ ap (λ marks. marks_from a marks history) (sym (map-push a known (length known ∷ ancestors_at known p.0 ++ ancestors_at known p.1)))
    ∙ marks-table a (known ++ (length known ∷ ancestors_at known p.0 ++ ancestors_at known p.1) ∷ []) history

-- ---- later revisions leave the rows that are there

index-left : (xs : List (List ℕ)) (y : List ℕ) (b : ℕ) → b < length xs → slice_index_or (xs ++ y ∷ []) b [] ≡ slice_index_or xs b []
index-left [] y b lt = absurd (omega arith)
index-left (x ∷ xs) y zero lt = refl
index-left (x ∷ xs) y (suc b) lt = index-left xs y b (omega arith)

rows-stay : (known : List (List ℕ)) (history : List Parents) (b : ℕ) → b < length known → slice_index_or (ancestors_from known history) b [] ≡ slice_index_or known b []
rows-stay known [] b lt = refl
rows-stay known (p ∷ history) b lt =
    rows-stay (known ++ (length known ∷ ancestors_at known p.0 ++ ancestors_at known p.1) ∷ []) history b (omega (arith, length-append known ((length known ∷ ancestors_at known p.0 ++ ancestors_at known p.1) ∷ [])))
    ∙ index-left known (length known ∷ ancestors_at known p.0 ++ ancestors_at known p.1) b lt

rows-take : (known : List (List ℕ)) (history : List Parents) (k b : ℕ) → b < length known + k → k < length history + 1 → slice_index_or (ancestors_from known (take k history)) b [] ≡ slice_index_or (ancestors_from known history) b []
rows-take known [] zero b lt le = refl
rows-take known [] (suc k) b lt le = refl
rows-take known (p ∷ history) zero b lt le = sym (rows-stay known (p ∷ history) b (omega arith))
rows-take known (p ∷ history) (suc k) b lt le =
    rows-take (known ++ (length known ∷ ancestors_at known p.0 ++ ancestors_at known p.1) ∷ []) history k b
    (omega (arith, length-append known ((length known ∷ ancestors_at known p.0 ++ ancestors_at known p.1) ∷ []))) (omega arith)

-- the mark of a revision is the test
pub marks-decide : (a b : ℕ) (history : List Parents) (k : ℕ) → b < k → k < length history + 1 → slice_index_or (marks_from a [] (take k history)) b false ≡ is_ancestor history a b
marks-decide a b history k lt le =
    ap (λ marks. slice_index_or marks b false) (marks-table a [] (take k history))
    ∙ index-map a (ancestors_from [] (take k history)) b
    ∙ ap (among_ancestors a) (rows-take [] history k b (omega arith) le)

pub before-take : (n k : ℕ) (history : List Parents) → ParentsBefore n history → ParentsBefore n (take k history)
before-take n zero [] before = tt
before-take n (suc k) [] before = tt
before-take n zero (p ∷ history) before = tt
before-take n (suc k) (p ∷ history) before = (before.0, before.1, before-take (suc n) k history before.2)

before-drop : (n k : ℕ) (history : List Parents) → ParentsBefore n history → ParentsBefore (n + k) (drop k history)
before-drop n zero [] before = tt
before-drop n (suc k) [] before = tt
before-drop n zero (p ∷ history) before = subst (λ m. ParentsBefore m (p ∷ history)) (let e : n ≡ n + 0 = omega arith in e) before
before-drop n (suc k) (p ∷ history) before = subst (λ m. ParentsBefore m (drop k history)) (let e : suc n + k ≡ n + suc k = omega arith in e) (before-drop (suc n) k history before.2)

-- ---- no revision before `a` has it as an ancestor

drop-all : {A : Type 0} (xs : List A) (k : ℕ) → length xs < k + 1 → drop k xs ≡ []
drop-all [] zero le = refl
drop-all [] (suc k) le = refl
drop-all (x ∷ xs) zero le = absurd (omega arith)
drop-all (x ∷ xs) (suc k) le = drop-all xs k (omega arith)

index-none : (n rev : ℕ) → slice_index_or (replicate n false) rev false ≡ false
index-none zero rev = refl
index-none (suc n) zero = refl
index-none (suc n) (suc rev) = index-none n rev

at-none : (n : ℕ) (p : Option ℕ) → reached_at (replicate n false) p ≡ false
at-none n None = refl
at-none n (Some rev) = index-none n rev

none-reaches : (a n : ℕ) (p : Parents) → n < a → reaches (replicate n false) a p ≡ false
none-reaches a n p lt =
    let here : (length (replicate n false) == a) ≡ false = grind (arith, nat_tests, length-replicate n false) in
    ap (λ b. b || (reached_at (replicate n false) p.0 || reached_at (replicate n false) p.1)) here
    ∙ ap (λ b. b || reached_at (replicate n false) p.1) (at-none n p.0)
    ∙ at-none n p.1

none-more : (a n : ℕ) (p : Parents) → n < a → replicate n false ++ reaches (replicate n false) a p ∷ [] ≡ replicate (suc n) false
none-more a n p lt = ap (λ b. replicate n false ++ b ∷ []) (none-reaches a n p lt) ∙ replicate_more n false ∙ ap (λ m. replicate m false) (let e : n + 1 ≡ suc n = omega arith in e)

marks-after : (a n k : ℕ) (history : List Parents) → n + k ≤ a → k ≤ length history → marks_from a (replicate n false) history ≡ marks_from a (replicate (n + k) false) (drop k history)
marks-after a n zero history below le = ap (λ m. marks_from a (replicate m false) history) (let e : n ≡ n + 0 = omega arith in e)
marks-after a n (suc k) [] below le = absurd (omega arith)
marks-after a n (suc k) (p ∷ history) below le =
    ap (λ marks. marks_from a marks history) (none-more a n p (omega arith))
    ∙ marks-after a (suc n) k history (omega arith) (omega arith)
    ∙ ap (λ m. marks_from a (replicate m false) (drop k history)) (let e : suc n + k ≡ n + suc k = omega arith in e)

marks-up-to : (a k : ℕ) (history : List Parents) → k ≤ a → k ≤ length history → marks_from a [] history ≡ marks_from a (replicate k false) (drop k history)
marks-up-to a k history below le = marks-after a 0 k history (omega arith) le ∙ ap (λ m. marks_from a (replicate m false) (drop k history)) (let e : 0 + k ≡ k = omega arith in e)

pub not-before : (a b : ℕ) (history : List Parents) → b < a → b < length history → is_ancestor history a b ≡ false
not-before a b history before lt =
    let front = length-take-le (b + 1) history (omega arith) in
    sym (marks-decide a b history (b + 1) (omega arith) (omega arith))
    ∙ ap (λ marks. slice_index_or marks b false) (marks-up-to a (b + 1) (take (b + 1) history) (omega arith) (omega (arith, front)) ∙ ap (marks_from a (replicate (b + 1) false)) (drop-all (take (b + 1) history) (b + 1) (omega (arith, front))))
    ∙ index-none (b + 1) b

-- ---- the walk, step by step

-- after k of these revisions, of which the first is `a`
pub record Walk (a : ℕ) (reached : List Bool) (k : ℕ) (history : List Parents) : Type 0 where
  pub marks : marks_from a (replicate a false ++ reached) (drop k history) ≡ marks_from a (replicate a false) history
  pub count : length reached ≡ k
  pub earlier : ParentsBefore (a + k) (drop k history)

pub walk-begins : (a k : ℕ) (history : List Parents) → ParentsBefore 0 history → Walk a [] 0 (take k (drop a history))
walk-begins a k history before = record {
  marks = ap (λ marks. marks_from a marks (take k (drop a history))) (append-nil (replicate a false));
  count = refl;
  earlier = subst (λ m. ParentsBefore m (take k (drop a history))) (let e : 0 + a ≡ a + 0 = omega arith in e) (before-take (0 + a) k (drop a history) (before-drop 0 a history before));
}

within-front : (a b : ℕ) (history : List Parents) → a ≤ b → drop a (take (b + 1) history) ≡ take (b + 1 - a) (drop a history)
within-front a b history le =
    let whole : b + 1 ≡ a + (b + 1 - a) = omega arith in
    ap (λ n. drop a (take n history)) whole ∙ drop-take a (b + 1 - a) history

-- at the end of the revisions from `a` to `b` the marks are those of a walk from the first revision
walk-marks : (a b : ℕ) (reached : List Bool) (k : ℕ) (history : List Parents) → Walk a reached k (take (b + 1 - a) (drop a history)) → length (take (b + 1 - a) (drop a history)) ≤ k → a ≤ b → b < length history → replicate a false ++ reached ≡ marks_from a [] (take (b + 1) history)
walk-marks a b reached k history w done le lt =
    sym (ap (marks_from a (replicate a false ++ reached)) (drop-all (take (b + 1 - a) (drop a history)) k (omega (arith, done))))
    ∙ w.marks
    ∙ ap (marks_from a (replicate a false)) (sym (within-front a b history le))
    ∙ sym (marks-up-to a a (take (b + 1) history) (omega arith) (omega (arith, length-take-le (b + 1) history (omega arith))))

-- and the mark of `b` is the test
pub walk-ends : (a b : ℕ) (reached : List Bool) (k : ℕ) (history : List Parents) → Walk a reached k (take (b + 1 - a) (drop a history)) → length (take (b + 1 - a) (drop a history)) ≤ k → a ≤ b → b < length history → (d : Bool) → slice_index_or reached (b - a) d ≡ is_ancestor history a b
walk-ends a b reached k history w done le lt d =
    let marks = walk-marks a b reached k history w done le lt in
    let there : b - a < length reached = omega (arith, w.count, length-drop a (take (b + 1) history), ap length (within-front a b history le), length-take-le (b + 1) history (omega arith)) in
    get_or_default reached (b - a) d false there
    ∙ sym (get_or-append_right (replicate a false) reached a b false (length-replicate a false) le)
    ∙ ap (λ m. slice_index_or m b false) marks
    ∙ marks-decide a b history (b + 1) (omega arith) (omega arith)
