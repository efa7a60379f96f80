-- Passes over the history, one changeset after another.
use Rattle.std.proofs.Common.{◌≡◌, ◌≢◌, ◌⊎◌, ◌<◌, ◌≤◌, ℕ, zero, suc, ◌+◌, Bool, true, false, ◌||◌, List, [], ◌∷◌, length, Option, Some, None, refl, sym, ◌∙◌, ap, subst, inl, inr, arith}
use Rattle.std.specs.Prelude.{◌↔◌, ◌==◌, IfSome, slice_get, slice_index_or, slice_set, if◌then◌else◌}
use Rattle.std.proofs.lemmas.Bool.{cases_lt}
use Rattle.std.proofs.lemmas.List.{get_or-set_same, get_or-set_other, length-set, set-get_or}
use Rattle.hgs_index.specs.Ancestor.{IsAncestor, itself, of_parent, IsParent}
use Rattle.hgs_index.specs.Revision.{Parents, ParentsBefore}
use Rattle.hgs_phases.specs.Moves.{is_marked, marked}
use Rattle.hgs_phases.specs.Theorems.PhaseLemmas.{or-cases, or-left, or-right, same-number, number-same, below-or-here, some_is}
use Rattle.hgs_members.specs.Passes.{IsMarked, climbed, descended, unmarked, headed, rooted, AreAncestors, AreDescendants, AreHeads, AreRoots}

-- ---- parents and ancestors

some-not-none : {A : Type 0} (x : A) → None ≡ Some x → ⊥
some-not-none x e = cc

parent-low : (start : ℕ) (history : List Parents) (c p : ℕ) → ParentsBefore start history → IsParent history p c → p < start + c
parent-low start [] c p b h = absurd (some-not-none _ h.1)
parent-low start (x ∷ history) zero p b h = elim h.2 [
  | inl first ↦ low x.0 b.0 (ap (λ (y : Parents). y.0) (some_is x h.0 h.1) ∙ first)
  | inr second ↦ low x.1 b.1 (ap (λ (y : Parents). y.1) (some_is x h.0 h.1) ∙ second)
]
  where
    low : (o : Option ℕ) → IfSome o (λ a. a < start) → o ≡ Some p → p < start + 0
    low None k e = absurd (some-not-none p e)
    low (Some q) k e = let same = some_is q p e in omega (arith, k, same)
parent-low start (x ∷ history) (suc c) p b h = let k = parent-low (suc start) history c p b.2 h in omega (arith, k)

pub parent_before : (history : List Parents) (p c : ℕ) → ParentsBefore 0 history → IsParent history p c → p < c
parent_before history p c b h = let k = parent-low 0 history c p b h in omega (arith, k)

there-low : {A : Type 0} (xs : List A) (i : ℕ) (x : A) → slice_get xs i ≡ Some x → i < length xs
there-low [] i x h = absurd (some-not-none x h)
there-low (y ∷ xs) zero x h = omega arith
there-low (y ∷ xs) (suc i) x h = let k = there-low xs i x h in omega (arith, k)

pub child_there : (history : List Parents) (p c : ℕ) → IsParent history p c → c < length history
child_there history p c h = there-low history c h.0 h.1

pub ancestor_further : (history : List Parents) (a b c : ℕ) → IsAncestor history a b → IsAncestor history b c → IsAncestor history a c
ancestor_further history a b c h itself = h
ancestor_further history a b c h (of_parent par rest) = of_parent par (ancestor_further history a b _ h rest)

pub parents_at : (history : List Parents) (n : ℕ) → n < length history → slice_get history n ≡ Some (slice_index_or history n (None, None))
parents_at [] n lt = absurd (omega (arith, lt))
parents_at (x ∷ history) zero lt = refl
parents_at (x ∷ history) (suc n) lt = parents_at history n (omega (arith, lt))

-- a number is one of two parents
abbrev HasParent : Parents → ℕ → Type 0
HasParent e p = (e.0 ≡ Some p) ⊎ (e.1 ≡ Some p)

parent-in : (history : List Parents) (n : ℕ) (e : Parents) (p : ℕ) → slice_get history n ≡ Some e → HasParent e p → IsParent history p n
parent-in history n e p there h = (e, there, h)

parent-of : (history : List Parents) (n : ℕ) (e : Parents) (p : ℕ) → slice_get history n ≡ Some e → IsParent history p n → HasParent e p
parent-of history n e p there h = elim h.2 [
  | inl first ↦ inl (ap (λ (y : Parents). y.0) same ∙ first)
  | inr second ↦ inr (ap (λ (y : Parents). y.1) same ∙ second)
]
  where
    same : e ≡ h.0
    same = some_is e h.0 (sym there ∙ h.1)

-- ---- one mark

pub false_is_not : {A : Type 0} → false ≡ true → A
false_is_not e = absurd (no e)
  where
    no : false ≡ true → ⊥
    no k = cc

pub mark-low : (marks : List Bool) (i : ℕ) → IsMarked marks i → i < length marks
mark-low [] i h = false_is_not h
mark-low (x ∷ marks) zero h = omega arith
mark-low (x ∷ marks) (suc i) h = let k = mark-low marks i h in omega (arith, k)

same-or-other : (a b : ℕ) → (a ≡ b) ⊎ (b ≢ a)
same-or-other a b = by (a == b) refl
  where
    by : (t : Bool) → (a == b) ≡ t → (a ≡ b) ⊎ (b ≢ a)
    by true e = inl (number-same a b e)
    by false e = inr (λ is. false_is_not (sym e ∙ ap (λ k. a == k) is ∙ same-number a))

set-was : (marks : List Bool) (q i : ℕ) → IsMarked (slice_set marks q true) i → IsMarked marks i ⊎ (q ≡ i)
set-was marks q i h = elim (same-or-other q i) [ inl e ↦ inr e | inr ne ↦ inl (sym (get_or-set_other marks q i true false ne) ∙ h) ]

set-stays : (marks : List Bool) (q i : ℕ) → IsMarked marks i → IsMarked (slice_set marks q true) i
set-stays marks q i h = elim (same-or-other q i) [
  | inl e ↦ (let low = mark-low marks i h in ap (λ k. slice_index_or (slice_set marks k true) i false) e ∙ get_or-set_same marks i true false low)
  | inr ne ↦ get_or-set_other marks q i true false ne ∙ h
]

set-here : (marks : List Bool) (q : ℕ) → q < length marks → IsMarked (slice_set marks q true) q
set-here marks q lt = get_or-set_same marks q true false lt

cleared-was : (marks : List Bool) (q i : ℕ) → IsMarked (slice_set marks q false) i → IsMarked marks i × (i ≢ q)
cleared-was marks q i h = elim (same-or-other q i) [
  | inl e ↦ (let low = cleared-low h in false_is_not (sym (get_or-set_same marks i false false low) ∙ ap (λ k. slice_index_or (slice_set marks k false) i false) (sym e) ∙ h))
  | inr ne ↦ (sym (get_or-set_other marks q i false false ne) ∙ h, ne)
]
  where
    cleared-low : IsMarked (slice_set marks q false) i → i < length marks
    cleared-low k = let low = mark-low (slice_set marks q false) i k in let size = length-set marks q false in omega (arith, low, size)

cleared-stays : (marks : List Bool) (q i : ℕ) → i ≢ q → IsMarked marks i → IsMarked (slice_set marks q false) i
cleared-stays marks q i ne h = get_or-set_other marks q i false false ne ∙ h

below-or-above : (n i : ℕ) → (i < n) ⊎ (n ≤ i)
below-or-above n i = cases_lt i n

-- ---- marks of parents

marked-was : (marks : List Bool) (o : Option ℕ) (i : ℕ) → IsMarked (marked marks o) i → IsMarked marks i ⊎ (o ≡ Some i)
marked-was marks None i h = inl h
marked-was marks (Some q) i h = elim (set-was marks q i h) [ inl was ↦ inl was | inr e ↦ inr (ap (λ k. Some k) e) ]

marked-stays : (marks : List Bool) (o : Option ℕ) (i : ℕ) → IsMarked marks i → IsMarked (marked marks o) i
marked-stays marks None i h = h
marked-stays marks (Some q) i h = set-stays marks q i h

marked-here : (marks : List Bool) (o : Option ℕ) (i : ℕ) → i < length marks → o ≡ Some i → IsMarked (marked marks o) i
marked-here marks None i lt e = absurd (some-not-none i e)
marked-here marks (Some q) i lt e = let same = some_is q i e in subst (λ k. IsMarked (slice_set marks k true) i) (sym same) (set-here marks i lt)

marked-length : (marks : List Bool) (o : Option ℕ) → length (marked marks o) ≡ length marks
marked-length marks None = refl
marked-length marks (Some q) = length-set marks q true

unmarked-was : (marks : List Bool) (o : Option ℕ) (i : ℕ) → IsMarked (unmarked marks o) i → IsMarked marks i × (o ≡ Some i → ⊥)
unmarked-was marks None i h = (h, some-not-none i)
unmarked-was marks (Some q) i h = let k = cleared-was marks q i h in (k.0, λ e. k.1 (sym (some_is q i e)))

unmarked-stays : (marks : List Bool) (o : Option ℕ) (i : ℕ) → (o ≡ Some i → ⊥) → IsMarked marks i → IsMarked (unmarked marks o) i
unmarked-stays marks None i ne h = h
unmarked-stays marks (Some q) i ne h = cleared-stays marks q i (λ e. ne (ap (λ k. Some k) (sym e))) h

unmarked-length : (marks : List Bool) (o : Option ℕ) → length (unmarked marks o) ≡ length marks
unmarked-length marks None = refl
unmarked-length marks (Some q) = length-set marks q false

-- whether a parent is marked
is-marked-says : (marks : List Bool) (o : Option ℕ) → is_marked marks o ≡ true → (p : ℕ) × (o ≡ Some p) × IsMarked marks p
is-marked-says marks None h = false_is_not h
is-marked-says marks (Some q) h = (q, refl, h)

is-marked-by : (marks : List Bool) (o : Option ℕ) (p : ℕ) → o ≡ Some p → IsMarked marks p → is_marked marks o ≡ true
is-marked-by marks o p e h = ap (is_marked marks) e ∙ h

pub record Up (e : Parents) (marks : List Bool) : Type 0 where
  pub parent : ℕ
  pub is : HasParent e parent
  pub mark : IsMarked marks parent

some-parent : (marks : List Bool) (e : Parents) → (is_marked marks e.0 || is_marked marks e.1) ≡ true → Up e marks
some-parent marks e h = elim (or-cases (is_marked marks e.0) (is_marked marks e.1) h) [
  | inl first ↦ (let k = is-marked-says marks e.0 first in record { parent = k.0; is = inl k.1; mark = k.2 })
  | inr second ↦ (let k = is-marked-says marks e.1 second in record { parent = k.0; is = inr k.1; mark = k.2 })
]

by-parent : (marks : List Bool) (e : Parents) (p : ℕ) → HasParent e p → IsMarked marks p → (is_marked marks e.0 || is_marked marks e.1) ≡ true
by-parent marks e p is h = elim is [
  | inl first ↦ or-left (is_marked marks e.0) (is_marked marks e.1) (is-marked-by marks e.0 p first h)
  | inr second ↦ or-right (is_marked marks e.0) (is_marked marks e.1) (is-marked-by marks e.1 p second h)
]

-- ---- ancestors, from the last down

climbed-was : (marks : List Bool) (n : ℕ) (e : Parents) (i : ℕ) → IsMarked (climbed marks n e) i → IsMarked marks i ⊎ (IsMarked marks n × HasParent e i)
climbed-was marks n e i h = by (slice_index_or marks n false) refl h
  where
    by : (t : Bool) → slice_index_or marks n false ≡ t → IsMarked (if t then marked (marked marks e.0) e.1 else marks) i → IsMarked marks i ⊎ (IsMarked marks n × HasParent e i)
    by false is k = inl k
    by true is k = elim (marked-was (marked marks e.0) e.1 i k) [
      | inr second ↦ inr (is, inr second)
      | inl before ↦ elim (marked-was marks e.0 i before) [ inr first ↦ inr (is, inl first) | inl was ↦ inl was ]
    ]

climbed-stays : (marks : List Bool) (n : ℕ) (e : Parents) (i : ℕ) → IsMarked marks i → IsMarked (climbed marks n e) i
climbed-stays marks n e i h = by (slice_index_or marks n false)
  where
    by : (t : Bool) → IsMarked (if t then marked (marked marks e.0) e.1 else marks) i
    by false = h
    by true = marked-stays (marked marks e.0) e.1 i (marked-stays marks e.0 i h)

climbed-here : (marks : List Bool) (n : ℕ) (e : Parents) (i : ℕ) → i < length marks → IsMarked marks n → HasParent e i → IsMarked (climbed marks n e) i
climbed-here marks n e i lt mark is =
    subst (λ t. IsMarked (if t then marked (marked marks e.0) e.1 else marks) i) (sym mark) (elim is [
      | inl first ↦ marked-stays (marked marks e.0) e.1 i (marked-here marks e.0 i lt first)
      | inr second ↦ marked-here (marked marks e.0) e.1 i (let size = marked-length marks e.0 in omega (arith, size, lt)) second
    ])

pub climbed-length : (marks : List Bool) (n : ℕ) (e : Parents) → length (climbed marks n e) ≡ length marks
climbed-length marks n e = by (slice_index_or marks n false)
  where
    by : (t : Bool) → length (if t then marked (marked marks e.0) e.1 else marks) ≡ length marks
    by false = refl
    by true = marked-length (marked marks e.0) e.1 ∙ marked-length marks e.0

-- the changesets from n on have marked their parents
pub record Climbed (n : ℕ) (history : List Parents) (first marks : List Bool) : Type 0 where
  pub size : length marks ≡ length history
  pub sound : (i : ℕ) → IsMarked marks i → (m : ℕ) × IsMarked first m × IsAncestor history i m
  pub kept : (i : ℕ) → IsMarked first i → IsMarked marks i
  pub closed : (p c : ℕ) → n ≤ c → IsParent history p c → IsMarked marks c → IsMarked marks p

-- no changeset from n on is marked
abbrev pub NoneFrom : ℕ → List Bool → Type 0
NoneFrom n marks = (i : ℕ) → n ≤ i → slice_index_or marks i false ≡ false

-- no changeset before n is marked
abbrev pub NoneBefore : ℕ → List Bool → Type 0
NoneBefore n marks = (i : ℕ) → i < n → slice_index_or marks i false ≡ false

pub climb_first : (n : ℕ) (history : List Parents) (first : List Bool) → NoneFrom n first → length first ≡ length history → Climbed n history first first
climb_first n history first none size = record {
  size = size;
  sound = λ i h. (i, h, itself);
  kept = λ i h. h;
  closed = λ p c le par h. false_is_not (sym (none c le) ∙ h);
}

here-or-above : (n i : ℕ) → n ≤ i → (i ≡ n) ⊎ (n + 1 ≤ i)
here-or-above n i le = elim (same-or-other n i) [ inl e ↦ inl (sym e) | inr ne ↦ inr (more n i le ne) ]
  where
    more : (x y : ℕ) → x ≤ y → y ≢ x → x + 1 ≤ y
    more x y l k = omega (arith, l, k)

pub climb_next : (n : ℕ) (history : List Parents) (first marks new : List Bool) (e : Parents) → ParentsBefore 0 history → slice_get history n ≡ Some e →
    new ≡ climbed marks n e → Climbed (n + 1) history first marks → Climbed n history first new
climb_next n history first marks new e before there is r = subst (Climbed n history first) (sym is) (record {
  size = climbed-length marks n e ∙ r.size;
  sound = λ i h. elim (climbed-was marks n e i h) [
    | inl was ↦ r.sound i was
    | inr up ↦ (let k = r.sound n up.0 in (k.0, k.1, ancestor_further history i n k.0 (of_parent (parent-in history n e i there up.1) itself) k.2))
  ];
  kept = λ i h. climbed-stays marks n e i (r.kept i h);
  closed = λ p c le par h. elim (climbed-was marks n e c h) [
    | inr up ↦ absurd (let k = parent_before history c n before (parent-in history n e c there up.1) in omega (arith, k, le))
    | inl was ↦ elim (here-or-above n c le) [
      | inr above ↦ climbed-stays marks n e p (r.closed p c above par was)
      | inl same ↦ here p (subst (λ k. IsParent history p k) same par) (subst (IsMarked marks) same was)
    ]
  ];
})
  where
    here : (p : ℕ) → IsParent history p n → IsMarked marks n → IsMarked (climbed marks n e) p
    here p par mark =
        let low = parent_before history p n before par in
        let top = child_there history p n par in
        let size = r.size in
        climbed-here marks n e p (omega (arith, low, top, size)) mark (parent-of history n e p there par)

up-closed : (history : List Parents) (marks : List Bool) (a b : ℕ) → ((p c : ℕ) → 0 ≤ c → IsParent history p c → IsMarked marks c → IsMarked marks p) → IsAncestor history a b → IsMarked marks b → IsMarked marks a
up-closed history marks a b closed itself h = h
up-closed history marks a b closed (of_parent par rest) h = up-closed history marks a _ closed rest (closed _ b (omega arith) par h)

pub climb_done : (n : ℕ) (history : List Parents) (first marks : List Bool) → n ≡ 0 → Climbed n history first marks → AreAncestors history first marks
climb_done n history first marks is r = λ i. (r.sound i, λ h. up-closed history marks i h.0 (λ p c le par k. r.closed p c (omega (arith, is)) par k) h.2 (r.kept h.0 h.1))

-- ---- descendants, from the first up

descended-was : (marks : List Bool) (n : ℕ) (e : Parents) (i : ℕ) → IsMarked (descended marks n e) i → IsMarked marks i ⊎ ((n ≡ i) × Up e marks)
descended-was marks n e i h = by (is_marked marks e.0 || is_marked marks e.1) refl h
  where
    by : (t : Bool) → (is_marked marks e.0 || is_marked marks e.1) ≡ t → IsMarked (if t then slice_set marks n true else marks) i → IsMarked marks i ⊎ ((n ≡ i) × Up e marks)
    by false is k = inl k
    by true is k = elim (set-was marks n i k) [ inl was ↦ inl was | inr same ↦ inr (same, some-parent marks e is) ]

descended-stays : (marks : List Bool) (n : ℕ) (e : Parents) (i : ℕ) → IsMarked marks i → IsMarked (descended marks n e) i
descended-stays marks n e i h = by (is_marked marks e.0 || is_marked marks e.1)
  where
    by : (t : Bool) → IsMarked (if t then slice_set marks n true else marks) i
    by false = h
    by true = set-stays marks n i h

descended-here : (marks : List Bool) (n : ℕ) (e : Parents) (p : ℕ) → n < length marks → HasParent e p → IsMarked marks p → IsMarked (descended marks n e) n
descended-here marks n e p lt is h = subst (λ t. IsMarked (if t then slice_set marks n true else marks) n) (sym (by-parent marks e p is h)) (set-here marks n lt)

pub set-when-length : (t b : Bool) (marks : List Bool) (n : ℕ) → length (if t then slice_set marks n b else marks) ≡ length marks
set-when-length true b marks n = length-set marks n b
set-when-length false b marks n = refl

-- the first n changesets have taken the marks of their parents
pub record Descended (n : ℕ) (history : List Parents) (first marks : List Bool) : Type 0 where
  pub size : length marks ≡ length history
  pub sound : (i : ℕ) → IsMarked marks i → (m : ℕ) × IsMarked first m × IsAncestor history m i
  pub kept : (i : ℕ) → IsMarked first i → IsMarked marks i
  pub closed : (p c : ℕ) → c < n → IsParent history p c → IsMarked marks p → IsMarked marks c

pub descend_first : (n : ℕ) (history : List Parents) (first : List Bool) → ParentsBefore 0 history → NoneBefore n first → length first ≡ length history → Descended n history first first
descend_first n history first before none size = record {
  size = size;
  sound = λ i h. (i, h, itself);
  kept = λ i h. h;
  closed = λ p c lt par h. (let k = parent_before history p c before par in false_is_not (sym (none p (omega (arith, k, lt))) ∙ h));
}

pub descend_next : (n : ℕ) (history : List Parents) (first marks new : List Bool) (e : Parents) → ParentsBefore 0 history → slice_get history n ≡ Some e →
    new ≡ descended marks n e → Descended n history first marks → Descended (n + 1) history first new
descend_next n history first marks new e before there is r = subst (Descended (n + 1) history first) (sym is) (record {
  size = set-when-length (is_marked marks e.0 || is_marked marks e.1) true marks n ∙ r.size;
  sound = λ i h. elim (descended-was marks n e i h) [
    | inl was ↦ r.sound i was
    | inr up ↦ (let k = r.sound up.1.parent up.1.mark in (k.0, k.1, subst (IsAncestor history k.0) up.0 (of_parent (parent-in history n e up.1.parent there up.1.is) k.2)))
  ];
  kept = λ i h. descended-stays marks n e i (r.kept i h);
  closed = λ p c lt par h. elim (descended-was marks n e p h) [
    | inr up ↦ absurd (let k = parent_before history p c before par in let same = up.0 in omega (arith, k, same, lt))
    | inl was ↦ elim (below-or-here n c lt) [
      | inl low ↦ descended-stays marks n e c (r.closed p c low par was)
      | inr same ↦ subst (IsMarked (descended marks n e)) (sym same) (here p (subst (λ k. IsParent history p k) same par) was)
    ]
  ];
})
  where
    here : (p : ℕ) → IsParent history p n → IsMarked marks p → IsMarked (descended marks n e) n
    here p par mark =
        let top = child_there history p n par in
        let size = r.size in
        descended-here marks n e p (omega (arith, top, size)) (parent-of history n e p there par) mark

down-closed : (history : List Parents) (marks : List Bool) (a b : ℕ) → ((p c : ℕ) → IsParent history p c → IsMarked marks p → IsMarked marks c) → IsAncestor history a b → IsMarked marks a → IsMarked marks b
down-closed history marks a b closed itself h = h
down-closed history marks a b closed (of_parent par rest) h = closed _ b par (down-closed history marks a _ closed rest h)

pub descend_done : (n : ℕ) (history : List Parents) (first marks : List Bool) → length history ≤ n → Descended n history first marks → AreDescendants history first marks
descend_done n history first marks past r = λ i. (r.sound i, λ h. down-closed history marks h.0 i (λ p c par k. r.closed p c (let top = child_there history p c par in omega (arith, top, past)) par k) h.2 (r.kept h.0 h.1))

-- ---- heads, from the first up

headed-was : (marks : List Bool) (n : ℕ) (e : Parents) (i : ℕ) → IsMarked (headed marks n e) i → IsMarked marks i × (IsMarked marks n → HasParent e i → ⊥)
headed-was marks n e i h = by (slice_index_or marks n false) refl h
  where
    by : (t : Bool) → slice_index_or marks n false ≡ t → IsMarked (if t then unmarked (unmarked marks e.0) e.1 else marks) i → IsMarked marks i × (IsMarked marks n → HasParent e i → ⊥)
    by false is k = (k, λ mark. false_is_not (sym is ∙ mark))
    by true is k =
        let second = unmarked-was (unmarked marks e.0) e.1 i k in
        let first = unmarked-was marks e.0 i second.0 in
        (first.0, λ mark par. elim par [ inl x ↦ first.1 x | inr x ↦ second.1 x ])

headed-stays : (marks : List Bool) (n : ℕ) (e : Parents) (i : ℕ) → IsMarked marks i → (IsMarked marks n → HasParent e i → ⊥) → IsMarked (headed marks n e) i
headed-stays marks n e i h none = by (slice_index_or marks n false) refl
  where
    by : (t : Bool) → slice_index_or marks n false ≡ t → IsMarked (if t then unmarked (unmarked marks e.0) e.1 else marks) i
    by false is = h
    by true is = unmarked-stays (unmarked marks e.0) e.1 i (λ x. none is (inr x)) (unmarked-stays marks e.0 i (λ x. none is (inl x)) h)

pub headed-length : (marks : List Bool) (n : ℕ) (e : Parents) → length (headed marks n e) ≡ length marks
headed-length marks n e = by (slice_index_or marks n false)
  where
    by : (t : Bool) → length (if t then unmarked (unmarked marks e.0) e.1 else marks) ≡ length marks
    by false = refl
    by true = unmarked-length (unmarked marks e.0) e.1 ∙ unmarked-length marks e.0

-- the first n changesets have taken the marks of their parents, where they had one
pub record Headed (n : ℕ) (history : List Parents) (first marks : List Bool) : Type 0 where
  pub size : length marks ≡ length history
  pub sound : (i : ℕ) → IsMarked marks i → IsMarked first i × ((c : ℕ) → c < n → IsMarked first c → IsParent history i c → ⊥)
  pub complete : (i : ℕ) → IsMarked first i → ((c : ℕ) → c < n → IsMarked first c → IsParent history i c → ⊥) → IsMarked marks i

pub head_first : (n : ℕ) (history : List Parents) (first : List Bool) → NoneBefore n first → length first ≡ length history → Headed n history first first
head_first n history first none size = record {
  size = size;
  sound = λ i h. (h, λ c lt mark par. false_is_not (sym (none c lt) ∙ mark));
  complete = λ i h every. h;
}

pub head_next : (n : ℕ) (history : List Parents) (first marks new : List Bool) (e : Parents) → ParentsBefore 0 history → slice_get history n ≡ Some e →
    new ≡ headed marks n e → Headed n history first marks → Headed (n + 1) history first new
head_next n history first marks new e before there is r = subst (Headed (n + 1) history first) (sym is) (record {
  size = headed-length marks n e ∙ r.size;
  sound = λ i h. (let k = headed-was marks n e i h in let s = r.sound i k.0 in (
    s.0,
    λ c lt mark par. elim (below-or-here n c lt) [
      | inl low ↦ s.1 c low mark par
      | inr same ↦ k.1 (still (subst (IsMarked first) same mark)) (parent-of history n e i there (subst (λ x. IsParent history i x) same par))
    ],
  ));
  complete = λ i h none. headed-stays marks n e i (r.complete i h (λ c lt. none c (omega (arith, lt)))) (λ mark par. none n (omega arith) (r.sound n mark).0 (parent-in history n e i there par));
})
  where
    -- no child of n came yet
    still : IsMarked first n → IsMarked marks n
    still mark = r.complete n mark (λ c lt other par. let k = parent_before history n c before par in omega (arith, k, lt))

pub head_done : (end n : ℕ) (history : List Parents) (first marks : List Bool) → NoneFrom end first → end ≤ n → Headed n history first marks → AreHeads history first marks
head_done end n history first marks none past r = λ i. (
  λ h. (let s = r.sound i h in (s.0, λ c mark par. elim (below-or-above n c) [ inl low ↦ s.1 c low mark par | inr high ↦ false_is_not (sym (none c (omega (arith, high, past))) ∙ mark) ])),
  λ h. r.complete i h.0 (λ c lt mark par. h.1 c mark par),
)

-- ---- roots, from the last down

rooted-was : (marks : List Bool) (n : ℕ) (e : Parents) (i : ℕ) → IsMarked (rooted marks n e) i → IsMarked marks i × ((n ≡ i) → (p : ℕ) → HasParent e p → IsMarked marks p → ⊥)
rooted-was marks n e i h = by (is_marked marks e.0 || is_marked marks e.1) refl h
  where
    by : (t : Bool) → (is_marked marks e.0 || is_marked marks e.1) ≡ t → IsMarked (if t then slice_set marks n false else marks) i → IsMarked marks i × ((n ≡ i) → (p : ℕ) → HasParent e p → IsMarked marks p → ⊥)
    by false is k = (k, λ same p par mark. false_is_not (sym is ∙ by-parent marks e p par mark))
    by true is k = let w = cleared-was marks n i k in (w.0, λ same p par mark. w.1 (sym same))

rooted-other : (marks : List Bool) (n : ℕ) (e : Parents) (i : ℕ) → i ≢ n → IsMarked marks i → IsMarked (rooted marks n e) i
rooted-other marks n e i ne h = by (is_marked marks e.0 || is_marked marks e.1)
  where
    by : (t : Bool) → IsMarked (if t then slice_set marks n false else marks) i
    by false = h
    by true = cleared-stays marks n i ne h

rooted-here : (marks : List Bool) (n : ℕ) (e : Parents) → IsMarked marks n → ((p : ℕ) → HasParent e p → IsMarked marks p → ⊥) → IsMarked (rooted marks n e) n
rooted-here marks n e h none = by (is_marked marks e.0 || is_marked marks e.1) refl
  where
    by : (t : Bool) → (is_marked marks e.0 || is_marked marks e.1) ≡ t → IsMarked (if t then slice_set marks n false else marks) n
    by false is = h
    by true is = let up = some-parent marks e is in absurd (none up.parent up.is up.mark)

-- the changesets from n on have lost their marks where a parent had one
pub record Rooted (n : ℕ) (history : List Parents) (first marks : List Bool) : Type 0 where
  pub size : length marks ≡ length history
  pub below : (i : ℕ) → i < n → (IsMarked marks i ↔ IsMarked first i)
  pub above : (i : ℕ) → n ≤ i → (IsMarked marks i ↔ IsMarked first i × ((p : ℕ) → IsMarked first p → IsParent history p i → ⊥))

pub root_first : (n : ℕ) (history : List Parents) (first : List Bool) → NoneFrom n first → length first ≡ length history → Rooted n history first first
root_first n history first none size = record {
  size = size;
  below = λ i lt. (λ h. h, λ h. h);
  above = λ i le. (λ h. false_is_not (sym (none i le) ∙ h), λ h. h.0);
}

pub root_next : (n : ℕ) (history : List Parents) (first marks new : List Bool) (e : Parents) → ParentsBefore 0 history → slice_get history n ≡ Some e →
    new ≡ rooted marks n e → Rooted (n + 1) history first marks → Rooted n history first new
root_next n history first marks new e before there is r = subst (Rooted n history first) (sym is) (record {
  size = set-when-length (is_marked marks e.0 || is_marked marks e.1) false marks n ∙ r.size;
  below = λ i lt. (λ h. (r.below i (omega (arith, lt))).0 (rooted-was marks n e i h).0, λ h. rooted-other marks n e i (λ k. absurd (omega (arith, k, lt))) ((r.below i (omega (arith, lt))).1 h));
  above = λ i le. elim (here-or-above n i le) [
    | inr more ↦ (λ h. (r.above i more).0 (rooted-was marks n e i h).0, λ h. rooted-other marks n e i (λ k. absurd (omega (arith, k, more))) ((r.above i more).1 h))
    | inl same ↦ subst (λ k. IsMarked (rooted marks n e) k ↔ IsMarked first k × ((p : ℕ) → IsMarked first p → IsParent history p k → ⊥)) (sym same) (down, up)
  ];
})
  where
    down : IsMarked (rooted marks n e) n → IsMarked first n × ((p : ℕ) → IsMarked first p → IsParent history p n → ⊥)
    down h =
        let w = rooted-was marks n e n h in
        ((r.below n (omega arith)).0 w.0, λ p mark par. w.1 refl p (parent-of history n e p there par) ((r.below p (let k = parent_before history p n before par in omega (arith, k))).1 mark))

    up : IsMarked first n × ((p : ℕ) → IsMarked first p → IsParent history p n → ⊥) → IsMarked (rooted marks n e) n
    up h = rooted-here marks n e ((r.below n (omega arith)).1 h.0) (λ p par mark.
        (let inside = parent-in history n e p there par in
        h.1 p ((r.below p (let k = parent_before history p n before inside in omega (arith, k))).0 mark) inside))

pub root_done : (start n : ℕ) (history : List Parents) (first marks : List Bool) → NoneBefore start first → n ≤ start → Rooted n history first marks → AreRoots history first marks
root_done start n history first marks none past r = λ i. elim (below-or-above n i) [
  | inr high ↦ r.above i high
  | inl low ↦ (
    λ h. false_is_not (sym (none i (omega (arith, low, past))) ∙ (r.below i low).0 h),
    λ h. false_is_not (sym (none i (omega (arith, low, past))) ∙ h.0),
  )
]

-- a changeset that is not marked stays as it is
pub rooted_unmarked : (marks : List Bool) (n : ℕ) (e : Parents) → slice_index_or marks n false ≡ false → rooted marks n e ≡ marks
rooted_unmarked marks n e none = by (is_marked marks e.0 || is_marked marks e.1)
  where
    by : (t : Bool) → (if t then slice_set marks n false else marks) ≡ marks
    by false = refl
    by true = ap (slice_set marks n) (sym none) ∙ set-get_or marks n false
