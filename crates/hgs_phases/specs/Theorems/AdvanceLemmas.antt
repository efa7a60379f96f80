-- Phases that are lowered, from a changeset down to its ancestors.
use Rattle.std.proofs.Common.{◌≡◌, ◌≢◌, ◌⊎◌, ◌<◌, ◌≤◌, ℕ, zero, suc, ◌+◌, Bool, true, false, ◌||◌, List, [], ◌∷◌, length, Option, Some, None, refl, sym, ◌∙◌, ap, subst, inl, inr, arith}
use Rattle.std.specs.Prelude.{◌==◌, nat_lt, IfSome, replicate, slice_get, slice_index_or, slice_set, if◌then◌else◌}
use Rattle.std.proofs.lemmas.Bool.Decides.{nat_tests}
use Rattle.std.proofs.lemmas.List.{get_or-set_same, get_or-set_other, length-set}
use Rattle.hgs_index.specs.Ancestor.{is_ancestor}
use Rattle.hgs_index.specs.Revision.{Parents}
use Rattle.hgs_index.specs.declared.entry.Entry.{Entry}
use Rattle.hgs_model.specs.declared.phase.Phase.{Phase}
use Rattle.hgs_model.specs.declared.phase.Phase.TheVariants.{Public}
use Rattle.hgs_model.specs.Phase.{lesser}
use Rattle.hgs_phases.specs.Phases.{history_of}
use Rattle.hgs_phases.specs.Moves.{advanced, advanced_at, lowered, marked}
use Rattle.hgs_phases.specs.Theorems.PhaseLemmas.{same_when, or-cases, or-left, or-right, same-number, number-same, reaches_parent, earlier, earlier-low, ancestor_step, below-or-here, history-at, by_place}

-- ---- who is an ancestor

pub get-there : {A : Type 0} (xs : List A) (i : ℕ) → i < length xs → (x : A) × (slice_get xs i ≡ Some x)
get-there [] i lt = absurd (omega (arith, lt))
get-there (x ∷ xs) zero lt = (x, refl)
get-there (x ∷ xs) (suc i) lt = get-there xs i (omega (arith, lt))

pub ancestor_itself : (history : List Parents) (n : ℕ) (p : Parents) → slice_get history n ≡ Some p → is_ancestor history n n ≡ true
ancestor_itself history n p here = ancestor_step history n n p here ∙ or-left (n == n) _ (same-number n)

parent-below : (history : List Parents) (a b : ℕ) (o : Option ℕ) → ((q : ℕ) → q < b → is_ancestor history a q ≡ true → a ≤ q) → IfSome o (λ q. q < b) → reaches_parent history a o ≡ true → a ≤ b
parent-below history a b None below low h = cc
parent-below history a b (Some q) below low h = let le = below q low h in omega (arith, le, low)

below-by : (history : List Parents) (a k b : ℕ) → b < k → b < length history → is_ancestor history a b ≡ true → a ≤ b
below-by history a zero b fuel lt h = absurd (omega (arith, fuel))
below-by history a (suc k) b fuel lt h =
    let p = get-there history b lt in
    let below : (q : ℕ) → q < b → is_ancestor history a q ≡ true → a ≤ q = (λ q low up. below-by history a k q (omega (arith, low, fuel)) (omega (arith, low, lt)) up) in
    elim (or-cases (a == b) _ (sym (ancestor_step history a b p.0 p.1) ∙ h)) [
      | inl e ↦ let is = number-same a b e in omega (arith, is)
      | inr e ↦ elim (or-cases (reaches_parent history a (earlier b p.0.0)) (reaches_parent history a (earlier b p.0.1)) e) [
        | inl l ↦ parent-below history a b (earlier b p.0.0) below (earlier-low b p.0.0) l
        | inr r ↦ parent-below history a b (earlier b p.0.1) below (earlier-low b p.0.1) r
      ]
    ]

pub ancestor_below : (history : List Parents) (a b : ℕ) → b < length history → is_ancestor history a b ≡ true → a ≤ b
ancestor_below history a b lt h = below-by history a (suc b) b (omega arith) lt h

pub ancestor_by_parent : (history : List Parents) (a n : ℕ) (p : Parents) → slice_get history n ≡ Some p → (reaches_parent history a (earlier n p.0) || reaches_parent history a (earlier n p.1)) ≡ true → is_ancestor history a n ≡ true
ancestor_by_parent history a n p here h = ancestor_step history a n p here ∙ or-right (a == n) _ h

parent-is : (history : List Parents) (a j : ℕ) (o : Option ℕ) → o ≡ Some j → is_ancestor history a j ≡ true → reaches_parent history a o ≡ true
parent-is history a j o e h = ap (reaches_parent history a) e ∙ h

-- ---- marks

false_is_not : {A : Type 0} → false ≡ true → A
false_is_not e = cc

earlier-is : (n q j : ℕ) → q ≡ j → j < n → earlier n (Some q) ≡ Some j
earlier-is n q j e lt = by (nat_lt q n) refl
  where
    by : (b : Bool) → nat_lt q n ≡ b → (if b then Some q else None) ≡ Some j
    by true h = ap (λ k. Some k) e
    by false h = false_is_not (sym h ∙ below (e) lt)
      where
        below : q ≡ j → j < n → nat_lt q n ≡ true
        below is less = grind (arith, nat_tests)

marked-was : (marks : List Bool) (o : Option ℕ) (j n : ℕ) → j < n → slice_index_or (marked marks o) j false ≡ true → (slice_index_or marks j false ≡ true) ⊎ (earlier n o ≡ Some j)
marked-was marks None j n lt h = inl h
marked-was marks (Some q) j n lt h = by (q == j) refl
  where
    by : (b : Bool) → (q == j) ≡ b → (slice_index_or marks j false ≡ true) ⊎ (earlier n (Some q) ≡ Some j)
    by true e = inr (earlier-is n q j (number-same q j e) lt)
    by false e = inl (sym (get_or-set_other marks q j true false (λ is. false_is_not (sym e ∙ ap (λ k. q == k) is ∙ same-number q))) ∙ h)

marked-stays : (marks : List Bool) (o : Option ℕ) (j : ℕ) → j < length marks → slice_index_or marks j false ≡ true → slice_index_or (marked marks o) j false ≡ true
marked-stays marks None j lt h = h
marked-stays marks (Some q) j lt h = by (q == j) refl
  where
    by : (b : Bool) → (q == j) ≡ b → slice_index_or (slice_set marks q true) j false ≡ true
    by true e = ap (λ k. slice_index_or (slice_set marks k true) j false) (number-same q j e) ∙ get_or-set_same marks j true false lt
    by false e = get_or-set_other marks q j true false (λ is. false_is_not (sym e ∙ ap (λ k. q == k) is ∙ same-number q)) ∙ h

marked-length : (marks : List Bool) (o : Option ℕ) → length (marked marks o) ≡ length marks
marked-length marks None = refl
marked-length marks (Some q) = length-set marks q true

-- ---- the way down

-- a marked changeset below m of which this one is an ancestor
pub record Leads (m : ℕ) (history : List Parents) (marks : List Bool) (a : ℕ) : Type 0 where
  pub by : ℕ
  pub low : by < m
  pub mark : slice_index_or marks by false ≡ true
  pub reach : is_ancestor history a by ≡ true

-- the changesets from m on are lowered where they are ancestors; those that are left are the ancestors of what is marked
pub record Lowered (m : ℕ) (history : List Parents) (rev : ℕ) (to : Phase) (old phases : List Phase) (marks : List Bool) : Type 0 where
  pub count : length phases ≡ length old
  pub marked : length marks ≡ length old
  pub below : (i : ℕ) → i < m → slice_index_or phases i Public ≡ slice_index_or old i Public
  pub above : (i : ℕ) → m ≤ i → slice_index_or phases i Public ≡ advanced_at history rev to old i
  pub sound : (a j : ℕ) → j < m → slice_index_or marks j false ≡ true → is_ancestor history a j ≡ true → is_ancestor history a rev ≡ true
  pub complete : (a : ℕ) → a < m → is_ancestor history a rev ≡ true → Leads m history marks a

none-marked : (n i : ℕ) → slice_index_or (replicate n false) i false ≡ false
none-marked zero i = refl
none-marked (suc n) zero = refl
none-marked (suc n) (suc i) = none-marked n i

only-marked : (n rev j : ℕ) → slice_index_or (slice_set (replicate n false) rev true) j false ≡ true → rev ≡ j
only-marked n rev j h = by (rev == j) refl
  where
    by : (b : Bool) → (rev == j) ≡ b → rev ≡ j
    by true e = number-same rev j e
    by false e = false_is_not (sym (get_or-set_other (replicate n false) rev j true false (λ is. false_is_not (sym e ∙ ap (λ k. rev == k) is ∙ same-number rev)) ∙ none-marked n j) ∙ h)

replicate-length : (n : ℕ) → length (replicate n false) ≡ n
replicate-length zero = refl
replicate-length (suc n) = ap suc (replicate-length n)

unreached : (history : List Parents) (i rev : ℕ) (to : Phase) (old : List Phase) → rev < length history → rev < i → slice_index_or old i Public ≡ advanced_at history rev to old i
unreached history i rev to old lt above = by (is_ancestor history i rev) refl
  where
    by : (b : Bool) → is_ancestor history i rev ≡ b → slice_index_or old i Public ≡ (if b then lesser (slice_index_or old i Public) to else slice_index_or old i Public)
    by true e = absurd (let le = ancestor_below history i rev lt e in omega (arith, le, above))
    by false e = refl

pub lowered_none : (m : ℕ) (history : List Parents) (rev : ℕ) (to : Phase) (old : List Phase) (marks : List Bool) (n : ℕ) → m ≡ rev + 1 → rev < length history → n ≡ length old → length old ≡ length history → marks ≡ slice_set (replicate n false) rev true →
    Lowered m history rev to old old marks
lowered_none m history rev to old marks n is lt long same marks-is =
    let size = replicate-length n in
    record {
      count = refl;
      marked = ap length marks-is ∙ length-set (replicate n false) rev true ∙ size ∙ long;
      below = λ i l. refl;
      above = λ i l. unreached history i rev to old lt (omega (arith, is, l));
      sound = λ a j l mark reach. subst (λ k. is_ancestor history a k ≡ true) (sym (only-marked n rev j (ap (λ ms. slice_index_or ms j false) (sym marks-is) ∙ mark))) reach;
      complete = λ a l reach. record {
        by = rev;
        low = omega (arith, is);
        mark = ap (λ ms. slice_index_or ms rev false) marks-is ∙ get_or-set_same (replicate n false) rev true false (omega (arith, size, long, same, lt));
        reach = reach;
      };
    }

-- a changeset is marked exactly where it is an ancestor
marked-exactly : (n : ℕ) (history : List Parents) (rev : ℕ) (to : Phase) (old phases : List Phase) (marks : List Bool) (p : Parents) → slice_get history n ≡ Some p → n ≤ rev → rev < length history → Lowered (n + 1) history rev to old phases marks →
    slice_index_or marks n false ≡ is_ancestor history n rev
marked-exactly n history rev to old phases marks p here le lt r = same_when _ _ (λ h. r.sound n n (omega arith) h (ancestor_itself history n p here)) back
  where
    back : is_ancestor history n rev ≡ true → slice_index_or marks n false ≡ true
    back h =
        let l = r.complete n (omega arith) h in
        let low = l.low in
        let up = ancestor_below history n l.by (omega (arith, low, le, lt)) l.reach in
        let is : l.by ≡ n = omega (arith, low, up) in
        ap (λ k. slice_index_or marks k false) (sym is) ∙ l.mark

sound-next : (t : Bool) (n : ℕ) (history : List Parents) (rev : ℕ) (marks : List Bool) (p : Parents) → slice_get history n ≡ Some p → slice_index_or marks n false ≡ t →
    ((a j : ℕ) → j < n + 1 → slice_index_or marks j false ≡ true → is_ancestor history a j ≡ true → is_ancestor history a rev ≡ true) →
    (a j : ℕ) → j < n → slice_index_or (if t then marked (marked marks p.0) p.1 else marks) j false ≡ true → is_ancestor history a j ≡ true → is_ancestor history a rev ≡ true
sound-next false n history rev marks p here is sound a j lt mark reach = sound a j (omega (arith, lt)) mark reach
sound-next true n history rev marks p here is sound a j lt mark reach = elim (marked-was (marked marks p.0) p.1 j n lt mark) [
  | inr second ↦ by-parent (or-right (reaches_parent history a (earlier n p.0)) (reaches_parent history a (earlier n p.1)) (parent-is history a j (earlier n p.1) second reach))
  | inl before ↦ elim (marked-was marks p.0 j n lt before) [
    | inr first ↦ by-parent (or-left (reaches_parent history a (earlier n p.0)) (reaches_parent history a (earlier n p.1)) (parent-is history a j (earlier n p.0) first reach))
    | inl was ↦ sound a j (omega (arith, lt)) was reach
  ]
]
  where
    by-parent : (reaches_parent history a (earlier n p.0) || reaches_parent history a (earlier n p.1)) ≡ true → is_ancestor history a rev ≡ true
    by-parent h = sound a n (omega arith) is (ancestor_by_parent history a n p here h)

-- a parent before its child is marked with the parents
first-leads : (n : ℕ) (history : List Parents) (marks : List Bool) (a : ℕ) (o u : Option ℕ) → n < length marks → reaches_parent history a (earlier n o) ≡ true → Leads n history (marked (marked marks o) u) a
first-leads n history marks a None u lt h = false_is_not h
first-leads n history marks a (Some q) u lt h = by (nat_lt q n) refl h
  where
    by : (b : Bool) → nat_lt q n ≡ b → reaches_parent history a (if b then Some q else None) ≡ true → Leads n history (marked (slice_set marks q true) u) a
    by true e reach =
        let low = less e in
        let size = length-set marks q true in
        record { by = q; low = low; mark = marked-stays (slice_set marks q true) u q (omega (arith, low, lt, size)) (get_or-set_same marks q true false (omega (arith, low, lt))); reach = reach }
      where
        less : nat_lt q n ≡ true → q < n
        less k = grind (arith, nat_tests)
    by false e reach = false_is_not reach

second-leads : (n : ℕ) (history : List Parents) (marks : List Bool) (a : ℕ) (u : Option ℕ) → n < length marks → reaches_parent history a (earlier n u) ≡ true → Leads n history (marked marks u) a
second-leads n history marks a u lt h = first-leads n history marks a u None lt h

complete-next : (t : Bool) (n : ℕ) (history : List Parents) (rev : ℕ) (marks : List Bool) (p : Parents) → slice_get history n ≡ Some p → slice_index_or marks n false ≡ t → n < length marks →
    (a : ℕ) → a < n → Leads (n + 1) history marks a → Leads n history (if t then marked (marked marks p.0) p.1 else marks) a
complete-next t n history rev marks p here is lt a low l = elim (below-or-here n l.by l.low) [
  | inl b ↦ record { by = l.by; low = b; mark = stays t (omega (arith, b, lt)); reach = l.reach }
  | inr e ↦ here-next t (sym is ∙ ap (λ k. slice_index_or marks k false) (sym e) ∙ l.mark) (ap (is_ancestor history a) (sym e) ∙ l.reach)
]
  where
    stays : (b : Bool) → l.by < length marks → slice_index_or (if b then marked (marked marks p.0) p.1 else marks) l.by false ≡ true
    stays false k = l.mark
    stays true k = let size = marked-length marks p.0 in marked-stays (marked marks p.0) p.1 l.by (omega (arith, size, k)) (marked-stays marks p.0 l.by k l.mark)

    here-next : (b : Bool) → b ≡ true → is_ancestor history a n ≡ true → Leads n history (if b then marked (marked marks p.0) p.1 else marks) a
    here-next false e reach = false_is_not e
    here-next true e reach = elim (or-cases (a == n) _ (sym (ancestor_step history a n p here) ∙ reach)) [
      | inl same ↦ absurd (let k = number-same a n same in omega (arith, k, low))
      | inr up ↦ elim (or-cases (reaches_parent history a (earlier n p.0)) (reaches_parent history a (earlier n p.1)) up) [
        | inl first ↦ first-leads n history marks a p.0 p.1 lt first
        | inr second ↦ second-leads n history (marked marks p.0) a p.1 (let size = marked-length marks p.0 in omega (arith, size, lt)) second
      ]
    ]

lowered-same : (b : Bool) (phases : List Phase) (n : ℕ) (to : Phase) → n < length phases → slice_index_or (if b then lowered phases n to else phases) n Public ≡ (if b then lesser (slice_index_or phases n Public) to else slice_index_or phases n Public)
lowered-same true phases n to lt = get_or-set_same phases n (lesser (slice_index_or phases n Public) to) Public lt
lowered-same false phases n to lt = refl

lowered-other : (b : Bool) (phases : List Phase) (n i : ℕ) (to : Phase) → i ≢ n → slice_index_or (if b then lowered phases n to else phases) i Public ≡ slice_index_or phases i Public
lowered-other true phases n i to ne = get_or-set_other phases n i (lesser (slice_index_or phases n Public) to) Public ne
lowered-other false phases n i to ne = refl

lowered-length : (b : Bool) (phases : List Phase) (n : ℕ) (to : Phase) → length (if b then lowered phases n to else phases) ≡ length phases
lowered-length true phases n to = length-set phases n (lesser (slice_index_or phases n Public) to)
lowered-length false phases n to = refl

marks-length : (b : Bool) (marks : List Bool) (o u : Option ℕ) → length (if b then marked (marked marks o) u else marks) ≡ length marks
marks-length true marks o u = marked-length (marked marks o) u ∙ marked-length marks o
marks-length false marks o u = refl

here-or-above : (n i : ℕ) → n ≤ i → (i ≡ n) ⊎ (n + 1 ≤ i)
here-or-above n i le = by (n == i) refl
  where
    by : (b : Bool) → (n == i) ≡ b → (i ≡ n) ⊎ (n + 1 ≤ i)
    by true e = inl (sym (number-same n i e))
    by false e = inr (more n i e le)
      where
        more : (x y : ℕ) → (x == y) ≡ false → x ≤ y → x + 1 ≤ y
        more x y h l = grind (arith, nat_tests)

pub lowered_next : (n : ℕ) (entries : List Entry) (rev : ℕ) (to : Phase) (old phases new : List Phase) (marks more : List Bool) (e : Entry) → slice_get entries n ≡ Some e → n ≤ rev → rev < length (history_of entries) → length old ≡ length (history_of entries) →
    Lowered (n + 1) (history_of entries) rev to old phases marks → new ≡ (if slice_index_or marks n false then lowered phases n to else phases) →
    more ≡ (if slice_index_or marks n false then marked (marked marks e.p1) e.p2 else marks) → Lowered n (history_of entries) rev to old new more
lowered_next n entries rev to old phases new marks more e there le lt same r phases-is marks-is =
    let t = slice_index_or marks n false in
    let here = history-at entries n e there in
    let count = r.count in
    let size = r.marked in
    let found = marked-exactly n (history_of entries) rev to old phases marks (e.p1, e.p2) here le lt r in
    let now : slice_index_or (if slice_index_or marks n false then lowered phases n to else phases) n Public ≡ advanced_at (history_of entries) rev to old n =
    lowered-same (slice_index_or marks n false) phases n to (omega (arith, count, le, lt, same))
    ∙ ap (λ p. if slice_index_or marks n false then lesser p to else p) (r.below n (omega arith))
    ∙ ap (λ b. if b then lesser (slice_index_or old n Public) to else slice_index_or old n Public) found in
    record {
      count = ap length phases-is ∙ lowered-length (slice_index_or marks n false) phases n to ∙ r.count;
      marked = ap length marks-is ∙ marks-length (slice_index_or marks n false) marks e.p1 e.p2 ∙ r.marked;
      below = λ i l. ap (λ ps. slice_index_or ps i Public) phases-is ∙ lowered-other (slice_index_or marks n false) phases n i to (λ k. absurd (omega (arith, l, k))) ∙ r.below i (omega (arith, l));
      above = λ i l. ap (λ ps. slice_index_or ps i Public) phases-is ∙ elim (here-or-above n i l) [
        | inl b ↦ ap (λ k. slice_index_or (if slice_index_or marks n false then lowered phases n to else phases) k Public) b ∙ now ∙ ap (advanced_at (history_of entries) rev to old) (sym b)
        | inr b ↦ lowered-other (slice_index_or marks n false) phases n i to (λ k. absurd (omega (arith, b, k))) ∙ r.above i b
      ];
      sound = λ a j l mark. sound-next (slice_index_or marks n false) n (history_of entries) rev marks (e.p1, e.p2) here refl r.sound a j l (ap (λ ms. slice_index_or ms j false) (sym marks-is) ∙ mark);
      complete = λ a l reach. subst (λ ms. Leads n (history_of entries) ms a) (sym marks-is)
          (complete-next (slice_index_or marks n false) n (history_of entries) rev marks (e.p1, e.p2) here refl (omega (arith, size, le, lt, same)) a l (r.complete a (omega (arith, l)) reach));
    }

pub all_lowered : (m : ℕ) (history : List Parents) (rev : ℕ) (to : Phase) (old phases : List Phase) (marks : List Bool) → m ≡ 0 → Lowered m history rev to old phases marks → phases ≡ advanced history rev to old
all_lowered m history rev to old phases marks is r =
    by_place Public (advanced_at history rev to old) phases 0 (length old) r.count (λ i lt. r.above i (omega (arith, is)) ∙ (let z : i ≡ 0 + i = omega arith in ap (advanced_at history rev to old) z))
