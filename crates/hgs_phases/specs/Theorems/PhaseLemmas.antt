-- The phases that roots give, from parents to children.
use Rattle.std.proofs.Common.{append_assoc, append-nil, length-append, take, ◌++◌, ◌≡◌, ◌⊎◌, ◌<◌, ◌≤◌, ℕ, zero, suc, ◌+◌, Bool, true, false, ◌||◌, List, [], ◌∷◌, length, map, drop, Option, Some, None, refl, sym, ◌∙◌, ap, subst, inl, inr, arith}
use Rattle.std.specs.Prelude.{◌==◌, IfSome, slice_get, slice_index_or, if◌then◌else◌, nat_lt}
use Rattle.std.specs.List.{range_with_len}
use Rattle.std.proofs.lemmas.Bool.Decides.{nat_tests}
use Rattle.std.proofs.lemmas.List.{get_or-set_same, get_or-set_other, length-set}
use Rattle.hgs_index.specs.Ancestor.{is_ancestor, ancestors_at, ancestors_from}
use Rattle.hgs_index.specs.Revision.{Parents}
use Rattle.hgs_index.specs.Theorems.AncestorTestLemmas.{member, member-append}
use Rattle.hgs_index.specs.declared.entry.Entry.{Entry}
use Rattle.hgs_revlog.specs.Log.{place_of}
use Rattle.hgs_model.specs.declared.phase.Phase.{Phase}
use Rattle.hgs_model.specs.declared.phase.Phase.TheVariants.{Public, Draft, Secret}
use Rattle.hgs_phases.specs.declared.roots.Root.{Root}
use Rattle.hgs_model.specs.Phase.{greater}
use Rattle.hgs_phases.specs.Phases.{history_of, reaches, phase_by, phases_by, parent_phase, stands_at, own_phase, raised, raised_root}

-- ---- the greater of two phases

pub greater-assoc : (a b c : Phase) → greater (greater a b) c ≡ greater a (greater b c)
greater-assoc Public b c = refl
greater-assoc Draft Public c = refl
greater-assoc Draft Draft Public = refl
greater-assoc Draft Draft Draft = refl
greater-assoc Draft Draft Secret = refl
greater-assoc Draft Secret c = refl
greater-assoc Secret b c = refl

greater-comm : (a b : Phase) → greater a b ≡ greater b a
greater-comm Public Public = refl
greater-comm Public Draft = refl
greater-comm Public Secret = refl
greater-comm Draft Public = refl
greater-comm Draft Draft = refl
greater-comm Draft Secret = refl
greater-comm Secret Public = refl
greater-comm Secret Draft = refl
greater-comm Secret Secret = refl

greater-same : (a : Phase) → greater a a ≡ a
greater-same Public = refl
greater-same Draft = refl
greater-same Secret = refl

pub greater-public : (a : Phase) → greater a Public ≡ a
greater-public Public = refl
greater-public Draft = refl
greater-public Secret = refl

greater-pairs : (a b c d : Phase) → greater (greater a b) (greater c d) ≡ greater (greater a c) (greater b d)
greater-pairs a b c d =
    greater-assoc a b (greater c d) ∙ ap (greater a) (sym (greater-assoc b c d) ∙ ap (λ x. greater x d) (greater-comm b c) ∙ greater-assoc c b d)
    ∙ sym (greater-assoc a c (greater b d))

when : Bool → Phase → Phase
when b p = if b then p else Public

greater-or : (x y : Bool) (p : Phase) → (if x || y then p else Public) ≡ greater (if x then p else Public) (if y then p else Public)
greater-or true true p = sym (greater-same p)
greater-or true false p = sym (greater-public p)
greater-or false y p = refl

-- ---- who is an ancestor, by the parents

pub same_when : (a b : Bool) → (a ≡ true → b ≡ true) → (b ≡ true → a ≡ true) → a ≡ b
same_when true b h k = sym (h refl)
same_when false true h k = k refl
same_when false false h k = refl

pub or-cases : (a b : Bool) → (a || b) ≡ true → (a ≡ true) ⊎ (b ≡ true)
or-cases true b h = inl refl
or-cases false b h = inr h

pub or-left : (a b : Bool) → a ≡ true → (a || b) ≡ true
or-left true b h = refl
or-left false b h = cc

pub or-right : (a b : Bool) → b ≡ true → (a || b) ≡ true
or-right true b h = refl
or-right false b h = h

pub same-number : (a : ℕ) → (a == a) ≡ true
same-number a = grind (arith, nat_tests)

pub number-same : (a b : ℕ) → (a == b) ≡ true → a ≡ b
number-same a b e = grind (arith, nat_tests)

pub some_is : {A : Type 0} (x y : A) → Some x ≡ Some y → x ≡ y
some_is x y e = cc

-- whether a changeset is an ancestor of a parent, or that parent
abbrev pub reaches_parent : List Parents → ℕ → Option ℕ → Bool
reaches_parent history a None = false
reaches_parent history a (Some q) = is_ancestor history a q

-- a parent, where it stands before its child
abbrev pub earlier : ℕ → Option ℕ → Option ℕ
earlier n None = None
earlier n (Some q) = if nat_lt q n then Some q else None

pub lt-is : (a b : ℕ) → nat_lt a b ≡ true → a < b
lt-is a b e = grind (arith, nat_tests)

pub not_lt-is : (a b : ℕ) → nat_lt a b ≡ false → b ≤ a
not_lt-is a b e = grind (arith, nat_tests)

pub earlier-low : (n : ℕ) (o : Option ℕ) → IfSome (earlier n o) (λ a. a < n)
earlier-low n None = tt
earlier-low n (Some q) = by (nat_lt q n) refl
  where
    by : (b : Bool) → nat_lt q n ≡ b → IfSome (if b then Some q else None) (λ a. a < n)
    by true e = lt-is q n e
    by false e = tt

take-below : {A : Type 0} (d : A) (n : ℕ) (xs : List A) (i : ℕ) → i < n → slice_index_or (take n xs) i d ≡ slice_index_or xs i d
take-below d zero xs i lt = absurd (omega (arith, lt))
take-below d (suc n) [] i lt = refl
take-below d (suc n) (x ∷ xs) zero lt = refl
take-below d (suc n) (x ∷ xs) (suc i) lt = take-below d n xs i (omega (arith, lt))

take-above : {A : Type 0} (d : A) (n : ℕ) (xs : List A) (i : ℕ) → n ≤ i → slice_index_or (take n xs) i d ≡ d
take-above d zero xs i le = refl
take-above d (suc n) [] i le = refl
take-above d (suc n) (x ∷ xs) zero le = absurd (omega (arith, le))
take-above d (suc n) (x ∷ xs) (suc i) le = take-above d n xs i (omega (arith, le))

-- what is looked up among the first n is that of the parents before n
pub cut-some : {A : Type 0} (d : A) (n : ℕ) (xs : List A) (q : ℕ) (look : Option ℕ → A) → look None ≡ d → look (Some q) ≡ slice_index_or xs q d → slice_index_or (take n xs) q d ≡ look (earlier n (Some q))
cut-some {A} d n xs q look none some = by (nat_lt q n) refl
  where
    by : (b : Bool) → nat_lt q n ≡ b → slice_index_or (take n xs) q d ≡ look (if b then Some q else None)
    by true e = take-below d n xs q (lt-is q n e) ∙ sym some
    by false e = take-above d n xs q (not_lt-is q n e) ∙ sym none

pub phases-cut : (n : ℕ) (phases : List Phase) (o : Option ℕ) → parent_phase (take n phases) o ≡ parent_phase phases (earlier n o)
phases-cut n phases None = refl
phases-cut n phases (Some q) = cut-some Public n phases q (parent_phase phases) refl refl

abbrev row_of : List (List ℕ) → Parents → List ℕ
row_of known p = length known ∷ ancestors_at known p.0 ++ ancestors_at known p.1

rows-stay : (known : List (List ℕ)) (more : List Parents) → (rest : List (List ℕ)) × (ancestors_from known more ≡ known ++ rest)
rows-stay known [] = ([], sym (append-nil known))
rows-stay known (p ∷ more) =
    let behind = rows-stay (known ++ row_of known p ∷ []) more in
    (row_of known p ∷ behind.0, behind.1 ∙ append_assoc known (row_of known p ∷ []) behind.0)

index-seam : (known : List (List ℕ)) (row : List ℕ) (rest : List (List ℕ)) → slice_index_or (known ++ row ∷ rest) (length known) [] ≡ row
index-seam [] row rest = refl
index-seam (x ∷ known) row rest = index-seam known row rest

take-seam : (known rest : List (List ℕ)) → take (length known) (known ++ rest) ≡ known
take-seam [] rest = refl
take-seam (x ∷ known) rest = ap (λ xs. x ∷ xs) (take-seam known rest)

row-at : (known : List (List ℕ)) (more : List Parents) (j n : ℕ) (p : Parents) → n ≡ length known + j → slice_get more j ≡ Some p →
    slice_index_or (ancestors_from known more) n [] ≡ n ∷ ancestors_at (take n (ancestors_from known more)) p.0 ++ ancestors_at (take n (ancestors_from known more)) p.1
row-at known [] j n p at e = cc
row-at known (q ∷ more) zero n p at e =
    let here : n ≡ length known = omega (arith, at) in
    let whole = rows-stay known (q ∷ more) in
    let behind = rows-stay (known ++ row_of known q ∷ []) more in
    let stays : take n (ancestors_from known (q ∷ more)) ≡ known = ap (take n) whole.1 ∙ ap (λ k. take k (known ++ whole.0)) here ∙ take-seam known whole.0 in
    ap (λ rs. slice_index_or rs n []) (behind.1 ∙ append_assoc known (row_of known q ∷ []) behind.0) ∙ ap (λ k. slice_index_or (known ++ row_of known q ∷ behind.0) k []) here ∙ index-seam known (row_of known q) behind.0
    ∙ ap (λ k. k ∷ ancestors_at known q.0 ++ ancestors_at known q.1) (sym here) ∙ ap (λ (r : Parents). n ∷ ancestors_at known r.0 ++ ancestors_at known r.1) (some_is q p e)
    ∙ ap (λ rs. n ∷ ancestors_at rs p.0 ++ ancestors_at rs p.1) (sym stays)
row-at known (q ∷ more) (suc j) n p at e =
    let longer = length-append known (row_of known q ∷ []) in
    row-at (known ++ row_of known q ∷ []) more j n p (omega (arith, at, longer)) e

member-parent : (history : List Parents) (a n : ℕ) (o : Option ℕ) → member a (ancestors_at (take n (ancestors_from [] history)) o) ≡ reaches_parent history a (earlier n o)
member-parent history a n None = refl
member-parent history a n (Some q) =
    cut-member (earlier n (Some q)) (cut-some [] n (ancestors_from [] history) q (ancestors_at (ancestors_from [] history)) refl refl)
  where
    cut-member : (o : Option ℕ) → slice_index_or (take n (ancestors_from [] history)) q [] ≡ ancestors_at (ancestors_from [] history) o → member a (slice_index_or (take n (ancestors_from [] history)) q []) ≡ reaches_parent history a o
    cut-member None e = ap (member a) e
    cut-member (Some r) e = ap (member a) e

same-flipped : (a b : ℕ) → (a == b) ≡ (b == a)
same-flipped a b = grind (arith, nat_tests)

-- an ancestor is the changeset itself or one of a parent that stands before it
pub ancestor_step : (history : List Parents) (a rev : ℕ) (p : Parents) → slice_get history rev ≡ Some p →
    is_ancestor history a rev ≡ ((a == rev) || (reaches_parent history a (earlier rev p.0) || reaches_parent history a (earlier rev p.1)))
ancestor_step history a rev p here =
    let from : rev ≡ 0 + rev = omega arith in
    ap (member a) (row-at [] history rev rev p from here)
    ∙ ap (λ b. (rev == a) || b) (member-append a (ancestors_at (take rev (ancestors_from [] history)) p.0) (ancestors_at (take rev (ancestors_from [] history)) p.1))
    ∙ ap (λ b. (rev == a) || (b || member a (ancestors_at (take rev (ancestors_from [] history)) p.1))) (member-parent history a rev p.0)
    ∙ ap (λ b. (rev == a) || (reaches_parent history a (earlier rev p.0) || b)) (member-parent history a rev p.1)
    ∙ ap (λ b. b || (reaches_parent history a (earlier rev p.0) || reaches_parent history a (earlier rev p.1))) (same-flipped rev a)

-- ---- the phases, by those of the parents

reaches_by : List Parents → Option ℕ → Option ℕ → Bool
reaches_by history None o = false
reaches_by history (Some a) o = reaches_parent history a o

reaches_step : (history : List Parents) (root : Option ℕ) (rev : ℕ) (p : Parents) → slice_get history rev ≡ Some p →
    reaches history root rev ≡ (stands_at root rev || (reaches_by history root (earlier rev p.0) || reaches_by history root (earlier rev p.1)))
unfolding reaches_by
reaches_step history None rev p here = refl
reaches_step history (Some a) rev p here = ancestor_step history a rev p here

-- the phase of a parent, by the definition
abbrev pub phase_of_parent : List Root → List Entry → Option ℕ → Phase
phase_of_parent roots entries None = Public
phase_of_parent roots entries (Some q) = phase_by roots entries q

parent-when : (history : List Parents) (root : Option ℕ) (o : Option ℕ) (q : ℕ) (p : Phase) → o ≡ Some q → (if reaches history root q then p else Public) ≡ (if reaches_by history root o then p else Public)
unfolding reaches_by
parent-when history None o q p e = refl
parent-when history (Some a) None q p e = cc
parent-when history (Some a) (Some r) q p e = ap (λ x. if is_ancestor history a x then p else Public) (sym (some_is r q e))

parent-none : (history : List Parents) (root : Option ℕ) (p : Phase) → Public ≡ (if reaches_by history root None then p else Public)
unfolding reaches_by
parent-none history None p = refl
parent-none history (Some a) p = refl

parent_more : (r : Root) (roots : List Root) (entries : List Entry) (o : Option ℕ) →
    phase_of_parent (r ∷ roots) entries o ≡ greater (if reaches_by (history_of entries) (place_of entries r.node.0) o then r.phase else Public) (phase_of_parent roots entries o)
parent_more r roots entries None = ap (λ x. greater x Public) (parent-none (history_of entries) (place_of entries r.node.0) r.phase)
parent_more r roots entries (Some q) = ap (λ x. greater x (phase_by roots entries q)) (parent-when (history_of entries) (place_of entries r.node.0) (Some q) q r.phase refl)

mixed : (a b c : Bool) (p own first second : Phase) → greater (if a || (b || c) then p else Public) (greater own (greater first second))
    ≡ greater (greater (if a then p else Public) own) (greater (greater (if b then p else Public) first) (greater (if c then p else Public) second))
mixed a b c p own first second =
    ap (λ x. greater x (greater own (greater first second))) (greater-or a (b || c) p ∙ ap (greater (if a then p else Public)) (greater-or b c p))
    ∙ greater-pairs (if a then p else Public) (greater (if b then p else Public) (if c then p else Public)) own (greater first second)
    ∙ ap (greater (greater (if a then p else Public) own)) (greater-pairs (if b then p else Public) (if c then p else Public) first second)

no_roots : (entries : List Entry) (o u : Option ℕ) → Public ≡ greater Public (greater (phase_of_parent [] entries o) (phase_of_parent [] entries u))
no_roots entries None None = refl
no_roots entries None (Some b) = refl
no_roots entries (Some a) None = refl
no_roots entries (Some a) (Some b) = refl

pub phase_step : (roots : List Root) (entries : List Entry) (rev : ℕ) (p : Parents) → slice_get (history_of entries) rev ≡ Some p →
    phase_by roots entries rev ≡ greater (own_phase roots entries rev) (greater (phase_of_parent roots entries (earlier rev p.0)) (phase_of_parent roots entries (earlier rev p.1)))
phase_step [] entries rev p here = no_roots entries (earlier rev p.0) (earlier rev p.1)
phase_step (r ∷ roots) entries rev p here =
    ap (λ b. greater (if b then r.phase else Public) (phase_by roots entries rev)) (reaches_step (history_of entries) (place_of entries r.node.0) rev p here)
    ∙ ap (greater (if stands_at (place_of entries r.node.0) rev || (reaches_by (history_of entries) (place_of entries r.node.0) (earlier rev p.0) || reaches_by (history_of entries) (place_of entries r.node.0) (earlier rev p.1)) then r.phase else Public))
    (phase_step roots entries rev p here)
    ∙ mixed (stands_at (place_of entries r.node.0) rev) (reaches_by (history_of entries) (place_of entries r.node.0) (earlier rev p.0)) (reaches_by (history_of entries) (place_of entries r.node.0) (earlier rev p.1)) r.phase
    (own_phase roots entries rev) (phase_of_parent roots entries (earlier rev p.0)) (phase_of_parent roots entries (earlier rev p.1))
    ∙ ap (λ x. greater (own_phase (r ∷ roots) entries rev) (greater x (greater (if reaches_by (history_of entries) (place_of entries r.node.0) (earlier rev p.1) then r.phase else Public) (phase_of_parent roots entries (earlier rev p.1))))) (sym (parent_more r roots entries (earlier rev p.0)))
    ∙ ap (λ x. greater (own_phase (r ∷ roots) entries rev) (greater (phase_of_parent (r ∷ roots) entries (earlier rev p.0)) x)) (sym (parent_more r roots entries (earlier rev p.1)))

-- ---- what the code has on its way

-- the own phases, but of the roots that are left
pub record OwnBut (left roots : List Root) (entries : List Entry) (phases : List Phase) : Type 0 where
  pub count : length phases ≡ length entries
  pub each : (rev : ℕ) → rev < length entries → greater (slice_index_or phases rev Public) (own_phase left entries rev) ≡ own_phase roots entries rev

-- the phases of the first changesets, and the own phases of the others
pub record UpTo (n : ℕ) (roots : List Root) (entries : List Entry) (phases : List Phase) : Type 0 where
  pub count : length phases ≡ length entries
  pub before : (rev : ℕ) → rev < n → slice_index_or phases rev Public ≡ phase_by roots entries rev
  pub behind : (rev : ℕ) → n ≤ rev → rev < length entries → slice_index_or phases rev Public ≡ own_phase roots entries rev

pub by_place : {A : Type 0} (d : A) (f : ℕ → A) (xs : List A) (k n : ℕ) → length xs ≡ n → ((i : ℕ) → i < n → slice_index_or xs i d ≡ f (k + i)) → xs ≡ map f (range_with_len k n)
by_place d f [] k zero l h = refl
by_place d f [] k (suc n) l h = absurd (omega arith)
by_place d f (x ∷ xs) k zero l h = absurd (omega arith)
by_place d f (x ∷ xs) k (suc n) l h =
    let first : k + 0 ≡ k = omega arith in
    ap (λ y. y ∷ xs) (h 0 (omega arith) ∙ ap f first)
    ∙ ap (λ ys. f k ∷ ys) (by_place d f xs (k + 1) n (omega (arith, l)) (λ i lt. h (suc i) (omega (arith, lt)) ∙ (let next : k + suc i ≡ (k + 1) + i = omega arith in ap f next)))

raised-at : (t : Bool) (phases : List Phase) (at rev : ℕ) (p : Phase) → (at == rev) ≡ t → rev < length phases → slice_index_or (raised phases at p) rev Public ≡ greater (slice_index_or phases rev Public) (if t then p else Public)
raised-at true phases at rev p e lt =
    let is = number-same at rev e in
    ap (λ k. slice_index_or (raised phases k p) rev Public) is ∙ get_or-set_same phases rev (greater (slice_index_or phases rev Public) p) Public lt
raised-at false phases at rev p e lt =
    get_or-set_other phases at rev (greater (slice_index_or phases at Public) p) Public (λ is. true_is_not (sym (same-number at) ∙ ap (λ k. at == k) (sym is) ∙ e)) ∙ sym (greater-public (slice_index_or phases rev Public))
  where
    true_is_not : true ≡ false → ⊥
    true_is_not k = cc

raised_root-at : (phases : List Phase) (o : Option ℕ) (rev : ℕ) (p : Phase) → rev < length phases → slice_index_or (raised_root phases o p) rev Public ≡ greater (slice_index_or phases rev Public) (if stands_at o rev then p else Public)
raised_root-at phases None rev p lt = sym (greater-public (slice_index_or phases rev Public))
raised_root-at phases (Some at) rev p lt = raised-at (at == rev) phases at rev p refl lt

raised_root-length : (phases : List Phase) (o : Option ℕ) (p : Phase) → length (raised_root phases o p) ≡ length phases
raised_root-length phases None p = refl
raised_root-length phases (Some at) p = length-set phases at (greater (slice_index_or phases at Public) p)

own_one : (left all : List Root) (r : Root) (entries : List Entry) (phases new : List Phase) → OwnBut (r ∷ left) all entries phases → new ≡ raised_root phases (place_of entries r.node.0) r.phase → OwnBut left all entries new
own_one left all r entries phases new own is = record {
  count = ap length is ∙ raised_root-length phases (place_of entries r.node.0) r.phase ∙ own.count;
  each = λ rev lt.
      ap (λ l. greater (slice_index_or l rev Public) (own_phase left entries rev)) is
      ∙ ap (λ x. greater x (own_phase left entries rev)) (raised_root-at phases (place_of entries r.node.0) rev r.phase (omega (arith, lt, own.count)))
      ∙ greater-assoc (slice_index_or phases rev Public) (if stands_at (place_of entries r.node.0) rev then r.phase else Public) (own_phase left entries rev) ∙ own.each rev lt;
}

pub drop_next : {A : Type 0} (d : A) (xs : List A) (i : ℕ) → i < length xs → drop i xs ≡ slice_index_or xs i d ∷ drop (i + 1) xs
drop_next d xs i lt = let n : i + 1 ≡ suc i = omega arith in at-suc d xs i lt ∙ ap (λ k. slice_index_or xs i d ∷ drop k xs) (sym n)
  where
    at-suc : {A : Type 0} (d : A) (ys : List A) (j : ℕ) → j < length ys → drop j ys ≡ slice_index_or ys j d ∷ drop (suc j) ys
    at-suc d [] j h = absurd (omega (arith, h))
    at-suc d (z ∷ ys) zero h = refl
    at-suc d (z ∷ ys) (suc j) h = at-suc d ys j (omega (arith, h))

pub own_next : (d : Root) (all : List Root) (i : ℕ) (entries : List Entry) (phases new : List Phase) → i < length all → OwnBut (drop i all) all entries phases →
    new ≡ raised_root phases (place_of entries (slice_index_or all i d).node.0) (slice_index_or all i d).phase → OwnBut (drop (i + 1) all) all entries new
own_next d all i entries phases new lt own is =
    own_one (drop (i + 1) all) all (slice_index_or all i d) entries phases new (subst (λ l. OwnBut l all entries phases) (drop_next d all i lt) own) is

pub below-or-here : (n k : ℕ) → k < n + 1 → (k < n) ⊎ (k ≡ n)
below-or-here zero zero l = inr refl
below-or-here zero (suc k) l = absurd (omega (arith, l))
below-or-here (suc n) zero l = inl (omega arith)
below-or-here (suc n) (suc k) l = elim (below-or-here n k (omega (arith, l))) [ inl x ↦ inl (omega (arith, x)) | inr x ↦ inr (ap suc x) ]

pub history-at : (entries : List Entry) (i : ℕ) (e : Entry) → slice_get entries i ≡ Some e → slice_get (history_of entries) i ≡ Some (e.p1, e.p2)
history-at [] i e h = cc
history-at (x ∷ entries) zero e h = ap (λ (y : Entry). Some (y.p1, y.p2)) (some_is x e h)
history-at (x ∷ entries) (suc i) e h = history-at entries i e h

pub history-length : (entries : List Entry) → length (history_of entries) ≡ length entries
history-length [] = refl
history-length (e ∷ entries) = ap suc (history-length entries)

parent-known : (n : ℕ) (roots : List Root) (entries : List Entry) (phases : List Phase) → UpTo n roots entries phases → (o : Option ℕ) → IfSome o (λ a. a < n) → parent_phase phases o ≡ phase_of_parent roots entries o
parent-known n roots entries phases up None low = refl
parent-known n roots entries phases up (Some q) low = up.before q low

pub up_next : (n : ℕ) (roots : List Root) (entries : List Entry) (phases new : List Phase) (e : Entry) → slice_get entries n ≡ Some e → n < length entries → UpTo n roots entries phases →
    new ≡ raised phases n (greater (parent_phase (take n phases) e.p1) (parent_phase (take n phases) e.p2)) → UpTo (n + 1) roots entries new
up_next n roots entries phases new e there lt up is =
    let here = history-at entries n e there in
    let room : n < length phases = (let c = up.count in omega (arith, c, lt)) in
    let now : slice_index_or (raised phases n (greater (parent_phase (take n phases) e.p1) (parent_phase (take n phases) e.p2))) n Public ≡ phase_by roots entries n =
    get_or-set_same phases n (greater (slice_index_or phases n Public) (greater (parent_phase (take n phases) e.p1) (parent_phase (take n phases) e.p2))) Public room
    ∙ ap (λ x. greater x (greater (parent_phase (take n phases) e.p1) (parent_phase (take n phases) e.p2))) (up.behind n (omega arith) lt)
    ∙ ap (λ x. greater (own_phase roots entries n) (greater x (parent_phase (take n phases) e.p2))) (phases-cut n phases e.p1 ∙ parent-known n roots entries phases up (earlier n e.p1) (earlier-low n e.p1))
    ∙ ap (λ x. greater (own_phase roots entries n) (greater (phase_of_parent roots entries (earlier n e.p1)) x)) (phases-cut n phases e.p2 ∙ parent-known n roots entries phases up (earlier n e.p2) (earlier-low n e.p2))
    ∙ sym (phase_step roots entries n (e.p1, e.p2) here) in
    record {
      count = ap length is ∙ length-set phases n (greater (slice_index_or phases n Public) (greater (parent_phase (take n phases) e.p1) (parent_phase (take n phases) e.p2))) ∙ up.count;
      before = λ rev l. ap (λ x. slice_index_or x rev Public) is ∙ elim (below-or-here n rev l) [
        | inl b ↦ get_or-set_other phases n rev (greater (slice_index_or phases n Public) (greater (parent_phase (take n phases) e.p1) (parent_phase (take n phases) e.p2))) Public (λ k. absurd (omega (arith, b, k))) ∙ up.before rev b
        | inr b ↦ ap (λ k. slice_index_or (raised phases n (greater (parent_phase (take n phases) e.p1) (parent_phase (take n phases) e.p2))) k Public) b ∙ now ∙ ap (phase_by roots entries) (sym b)
      ];
      behind = λ rev low' high. ap (λ x. slice_index_or x rev Public) is
          ∙ get_or-set_other phases n rev (greater (slice_index_or phases n Public) (greater (parent_phase (take n phases) e.p1) (parent_phase (take n phases) e.p2))) Public (λ k. absurd (omega (arith, low', k))) ∙ up.behind rev (omega (arith, low')) high;
    }

pub all_phases : (n : ℕ) (roots : List Root) (entries : List Entry) (phases : List Phase) → length entries ≤ n → UpTo n roots entries phases → phases ≡ phases_by roots entries
all_phases n roots entries phases past up =
    by_place Public (phase_by roots entries) phases 0 (length entries) up.count (λ i lt. up.before i (omega (arith, lt, past)) ∙ (let z : i ≡ 0 + i = omega arith in ap (phase_by roots entries) z))
