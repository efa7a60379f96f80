-- No phase is below that of a parent.
use Rattle.std.proofs.Common.{◌≡◌, ◌⊎◌, ◌<◌, ◌≤◌, ℕ, zero, suc, ◌+◌, Bool, true, false, List, [], ◌∷◌, ◌++◌, length, map, Option, Some, None, refl, sym, ◌∙◌, ap, subst, inl, inr, length-append, arith}
use Rattle.std.specs.Prelude.{IfSome, slice_get, slice_index_or, if◌then◌else◌}
use Rattle.std.specs.List.{range_with_len}
use Rattle.hgs_index.specs.Ancestor.{IsParent, IsAncestor, itself, of_parent, is_ancestor}
use Rattle.hgs_index.specs.declared.entry.Entry.{Entry}
use Rattle.hgs_index.specs.Theorems.AncestorTestLemmas.{is_ancestor-decides}
use Rattle.hgs_model.specs.declared.phase.Phase.{Phase}
use Rattle.hgs_model.specs.declared.phase.Phase.TheVariants.{Public, Draft, Secret}
use Rattle.hgs_phases.specs.declared.roots.Root.{Root}
use Rattle.hgs_phases.specs.Changelog.{IsChangelog, ArePhases}
use Rattle.hgs_phases.specs.Moves.{advanced, advanced_at, retracted, retracted_at}
use Rattle.hgs_model.specs.Phase.{phase_number, greater, lesser}
use Rattle.hgs_phases.specs.Phases.{history_of, parent_phase, phase_by, phases_by, own_phase}
use Rattle.hgs_phases.specs.Theorems.PhaseLemmas.{some_is, phase_of_parent, phase_step, earlier, history-at, history-length}
use Rattle.hgs_phases.specs.Theorems.WrittenLemmas.{parents_low, earlier-all}

-- what stands on a list with one more
get-push : {A : Type 0} (xs : List A) (y : A) (i : ℕ) (x : A) → slice_get (xs ++ y ∷ []) i ≡ Some x → (slice_get xs i ≡ Some x) ⊎ ((i ≡ length xs) × (y ≡ x))
get-push [] y zero x e = inr (refl, some_is y x e)
get-push [] y (suc i) x e = cc
get-push (z ∷ xs) y zero x e = inl e
get-push (z ∷ xs) y (suc i) x e = elim (get-push xs y i x e) [ inl b ↦ inl b | inr b ↦ inr (ap suc b.0, b.1) ]

-- ---- who is an ancestor, in a changelog

pub exact_ancestors : (entries : List Entry) (a b : ℕ) → IsChangelog entries → b < length entries → (is_ancestor (history_of entries) a b ≡ true → IsAncestor (history_of entries) a b) × (IsAncestor (history_of entries) a b → is_ancestor (history_of entries) a b ≡ true)
exact_ancestors entries a b log lt = let long = history-length entries in is_ancestor-decides (history_of entries) log.earlier a b (omega (arith, lt, long))

above-parent : (entries : List Entry) (q i rev : ℕ) → IsParent (history_of entries) q i → IsAncestor (history_of entries) i rev → IsAncestor (history_of entries) q rev
above-parent entries q i _ parent itself = of_parent parent itself
above-parent entries q i rev parent (of_parent is h) = of_parent is (above-parent entries q i _ parent h)

-- ---- the order of phases

upper : (a b : Phase) → phase_number b ≤ phase_number (greater a b)
upper Public b = omega arith
upper Draft Public = omega arith
upper Draft Draft = omega arith
upper Draft Secret = omega arith
upper Secret Public = omega arith
upper Secret Draft = omega arith
upper Secret Secret = omega arith

first-upper : (a b : Phase) → phase_number a ≤ phase_number (greater a b)
first-upper Public b = omega arith
first-upper Draft Public = omega arith
first-upper Draft Draft = omega arith
first-upper Draft Secret = omega arith
first-upper Secret b = omega arith

least-upper : (a b : Phase) (n : ℕ) → phase_number a ≤ n → phase_number b ≤ n → phase_number (greater a b) ≤ n
least-upper Public b n h k = k
least-upper Draft Public n h k = h
least-upper Draft Draft n h k = h
least-upper Draft Secret n h k = k
least-upper Secret b n h k = h

lower-bound : (a b : Phase) → phase_number (lesser a b) ≤ phase_number a
lower-bound Public b = omega arith
lower-bound Draft Public = omega arith
lower-bound Draft Draft = omega arith
lower-bound Draft Secret = omega arith
lower-bound Secret Public = omega arith
lower-bound Secret Draft = omega arith
lower-bound Secret Secret = omega arith

second-bound : (a b : Phase) → phase_number (lesser a b) ≤ phase_number b
second-bound Public b = omega arith
second-bound Draft Public = omega arith
second-bound Draft Draft = omega arith
second-bound Draft Secret = omega arith
second-bound Secret b = omega arith

greatest-lower : (a b : Phase) (n : ℕ) → n ≤ phase_number a → n ≤ phase_number b → n ≤ phase_number (lesser a b)
greatest-lower Public b n h k = h
greatest-lower Draft Public n h k = k
greatest-lower Draft Draft n h k = h
greatest-lower Draft Secret n h k = h
greatest-lower Secret b n h k = k

raised-both : (x y : Bool) (a b to : Phase) → (x ≡ true → y ≡ true) → phase_number a ≤ phase_number b → phase_number (if x then greater a to else a) ≤ phase_number (if y then greater b to else b)
raised-both true true a b to up le = least-upper a to (phase_number (greater b to)) (let k = first-upper b to in omega (arith, le, k)) (upper b to)
raised-both false true a b to up le = let k = first-upper b to in omega (arith, le, k)
raised-both false false a b to up le = le
raised-both true false a b to up le = absurd (none (up refl))
  where
    none : false ≡ true → ⊥
    none e = cc

lowered-both : (x y : Bool) (a b to : Phase) → (y ≡ true → x ≡ true) → phase_number a ≤ phase_number b → phase_number (if x then lesser a to else a) ≤ phase_number (if y then lesser b to else b)
lowered-both true true a b to down le = greatest-lower b to (phase_number (lesser a to)) (let k = lower-bound a to in omega (arith, le, k)) (second-bound a to)
lowered-both true false a b to down le = let k = lower-bound a to in omega (arith, le, k)
lowered-both false false a b to down le = le
lowered-both false true a b to down le = absurd (none (down refl))
  where
    none : false ≡ true → ⊥
    none e = cc

-- ---- lists by place

there-below : {A : Type 0} (xs : List A) (i : ℕ) (x : A) → slice_get xs i ≡ Some x → i < length xs
there-below [] i x e = cc
there-below (y ∷ xs) zero x e = omega arith
there-below (y ∷ xs) (suc i) x e = let lt = there-below xs i x e in omega (arith, lt)

placed : (f : ℕ → Phase) (k n i : ℕ) → i < n → slice_index_or (map f (range_with_len k n)) i Public ≡ f (k + i)
placed f k zero i lt = absurd (omega (arith, lt))
placed f k (suc n) zero lt = let z : k ≡ k + 0 = omega arith in ap f z
placed f k (suc n) (suc i) lt = placed f (k + 1) n i (omega (arith, lt)) ∙ (let z : (k + 1) + i ≡ k + suc i = omega arith in ap f z)

placed-here : (f : ℕ → Phase) (n i : ℕ) → i < n → slice_index_or (map f (range_with_len 0 n)) i Public ≡ f i
placed-here f n i lt = placed f 0 n i lt ∙ (let z : 0 + i ≡ i = omega arith in ap f z)

placed-length : (f : ℕ → Phase) (k n : ℕ) → length (map f (range_with_len k n)) ≡ n
placed-length f k zero = refl
placed-length f k (suc n) = ap suc (placed-length f (k + 1) n)

push-left : (xs : List Phase) (y : Phase) (i : ℕ) → i < length xs → slice_index_or (xs ++ y ∷ []) i Public ≡ slice_index_or xs i Public
push-left [] y i lt = absurd (omega (arith, lt))
push-left (x ∷ xs) y zero lt = refl
push-left (x ∷ xs) y (suc i) lt = push-left xs y i (omega (arith, lt))

push-last : (xs : List Phase) (y : Phase) → slice_index_or (xs ++ y ∷ []) (length xs) Public ≡ y
push-last [] y = refl
push-last (x ∷ xs) y = push-last xs y

-- ---- the phases that roots give

given-parent : (roots : List Root) (entries : List Entry) (rev : ℕ) (o : Option ℕ) → rev < length entries → IfSome o (λ a. a < rev) → parent_phase (phases_by roots entries) o ≡ phase_of_parent roots entries o
given-parent roots entries rev None lt low = refl
given-parent roots entries rev (Some q) lt low = placed-here (phase_by roots entries) (length entries) q (omega (arith, lt, low))

pub given_rise : (roots : List Root) (entries : List Entry) → IsChangelog entries → ArePhases entries (phases_by roots entries)
given_rise roots entries log = record {
  count = placed-length (phase_by roots entries) 0 (length entries);
  each = λ rev e there.
      let lt = there-below entries rev e there in
      let low = parents_low entries rev e log.earlier there in
      let first : parent_phase (phases_by roots entries) e.p1 ≡ phase_of_parent roots entries (earlier rev e.p1) = given-parent roots entries rev e.p1 lt low.0 ∙ ap (phase_of_parent roots entries) (sym (earlier-all rev e.p1 low.0)) in
      let second : parent_phase (phases_by roots entries) e.p2 ≡ phase_of_parent roots entries (earlier rev e.p2) = given-parent roots entries rev e.p2 lt low.1 ∙ ap (phase_of_parent roots entries) (sym (earlier-all rev e.p2 low.1)) in
      let here : slice_index_or (phases_by roots entries) rev Public ≡ greater (own_phase roots entries rev) (greater (phase_of_parent roots entries (earlier rev e.p1)) (phase_of_parent roots entries (earlier rev e.p2))) =
      placed-here (phase_by roots entries) (length entries) rev lt ∙ phase_step roots entries rev (e.p1, e.p2) (history-at entries rev e there) in
      subst (λ p. phase_number (greater (parent_phase (phases_by roots entries) e.p1) (parent_phase (phases_by roots entries) e.p2)) ≤ phase_number p) (sym here)
      (subst (λ p. phase_number p ≤ phase_number (greater (own_phase roots entries rev) (greater (phase_of_parent roots entries (earlier rev e.p1)) (phase_of_parent roots entries (earlier rev e.p2)))))
      (ap (λ p. greater p (phase_of_parent roots entries (earlier rev e.p2))) (sym first) ∙ ap (greater (parent_phase (phases_by roots entries) e.p1)) (sym second))
      (upper (own_phase roots entries rev) (greater (phase_of_parent roots entries (earlier rev e.p1)) (phase_of_parent roots entries (earlier rev e.p2)))));
}

-- ---- moves

-- what is kept between each parent and its child
abbrev Keeps : List Entry → List Phase → (ℕ → Phase) → Type 0
Keeps entries phases f = (q i : ℕ) → IsParent (history_of entries) q i → q < i → i < length entries → phase_number (slice_index_or phases q Public) ≤ phase_number (slice_index_or phases i Public) → phase_number (f q) ≤ phase_number (f i)

parent-kept : (entries : List Entry) (phases : List Phase) (f : ℕ → Phase) (n i : ℕ) (o : Option ℕ) → n ≡ length entries → Keeps entries phases f → i < length entries → IfSome o (λ a. a < i) → ((q : ℕ) → o ≡ Some q → IsParent (history_of entries) q i) →
    phase_number (parent_phase phases o) ≤ phase_number (slice_index_or phases i Public) → phase_number (parent_phase (map f (range_with_len 0 n)) o) ≤ phase_number (f i)
parent-kept entries phases f n i None same keeps lt low parent le = omega arith
parent-kept entries phases f n i (Some q) same keeps lt low parent le =
    subst (λ p. phase_number p ≤ phase_number (f i)) (sym (placed-here f n q (omega (arith, lt, low, same)))) (keeps q i (parent q refl) low lt le)

moved : (entries : List Entry) (phases : List Phase) (f : ℕ → Phase) → IsChangelog entries → ArePhases entries phases → Keeps entries phases f → ArePhases entries (map f (range_with_len 0 (length phases)))
moved entries phases f log are keeps = record {
  count = placed-length f 0 (length phases) ∙ are.count;
  each = λ rev e there.
      let lt = there-below entries rev e there in
      let low = parents_low entries rev e log.earlier there in
      let same = are.count in
      let le = are.each rev e there in
      let first = first-upper (parent_phase phases e.p1) (parent_phase phases e.p2) in
      let second = upper (parent_phase phases e.p1) (parent_phase phases e.p2) in
      let at = history-at entries rev e there in
      subst (λ p. phase_number (greater (parent_phase (map f (range_with_len 0 (length phases))) e.p1) (parent_phase (map f (range_with_len 0 (length phases))) e.p2)) ≤ phase_number p) (sym (placed-here f (length phases) rev (omega (arith, lt, same))))
      (least-upper (parent_phase (map f (range_with_len 0 (length phases))) e.p1) (parent_phase (map f (range_with_len 0 (length phases))) e.p2) (phase_number (f rev))
      (parent-kept entries phases f (length phases) rev e.p1 same keeps lt low.0 (λ q is. ((e.p1, e.p2), at, inl is)) (omega (arith, le, first)))
      (parent-kept entries phases f (length phases) rev e.p2 same keeps lt low.1 (λ q is. ((e.p1, e.p2), at, inr is)) (omega (arith, le, second))));
}

pub advanced_rise : (entries : List Entry) (rev : ℕ) (to : Phase) (phases : List Phase) → IsChangelog entries → rev < length entries → ArePhases entries phases → ArePhases entries (advanced (history_of entries) rev to phases)
advanced_rise entries rev to phases log stands are =
    moved entries phases (advanced_at (history_of entries) rev to phases) log are (λ q i parent less lt le.
    lowered-both (is_ancestor (history_of entries) q rev) (is_ancestor (history_of entries) i rev) (slice_index_or phases q Public) (slice_index_or phases i Public) to
    (λ h. (exact_ancestors entries q rev log stands).1 (above-parent entries q i rev parent ((exact_ancestors entries i rev log stands).0 h))) le)

pub retracted_rise : (entries : List Entry) (rev : ℕ) (to : Phase) (phases : List Phase) → IsChangelog entries → ArePhases entries phases → ArePhases entries (retracted (history_of entries) rev to phases)
retracted_rise entries rev to phases log are =
    moved entries phases (retracted_at (history_of entries) rev to phases) log are (λ q i parent less lt le.
    raised-both (is_ancestor (history_of entries) rev q) (is_ancestor (history_of entries) rev i) (slice_index_or phases q Public) (slice_index_or phases i Public) to
    (λ h. (exact_ancestors entries rev i log lt).1 (of_parent parent ((exact_ancestors entries rev q log (omega (arith, less, lt))).0 h))) le)

-- ---- one more changeset

parent-stays : (phases : List Phase) (phase : Phase) (n : ℕ) (o : Option ℕ) → n ≤ length phases → IfSome o (λ a. a < n) → parent_phase phases o ≡ parent_phase (phases ++ phase ∷ []) o
parent-stays phases phase n None le low = refl
parent-stays phases phase n (Some q) le low = sym (push-left phases phase q (omega (arith, le, low)))

pub pushed_rise : (entries : List Entry) (e : Entry) (phases : List Phase) (phase : Phase) → IsChangelog (entries ++ e ∷ []) → ArePhases entries phases → phase_number (greater (parent_phase phases e.p1) (parent_phase phases e.p2)) ≤ phase_number phase →
    ArePhases (entries ++ e ∷ []) (phases ++ phase ∷ [])
pushed_rise entries e phases phase log are above = record {
  count = (let l = length-append phases (phase ∷ []) in let k = length-append entries (e ∷ []) in let c = are.count in omega (arith, l, k, c));
  each = λ rev x there.
      let low = parents_low (entries ++ e ∷ []) rev x log.earlier there in
      let lt = there-below (entries ++ e ∷ []) rev x there in
      let long = length-append entries (e ∷ []) in
      let c = are.count in
      let room : rev ≤ length phases = omega (arith, lt, long, c) in
      let first = parent-stays phases phase rev x.p1 room low.0 in
      let second = parent-stays phases phase rev x.p2 room low.1 in
      subst (λ p. phase_number p ≤ phase_number (slice_index_or (phases ++ phase ∷ []) rev Public))
      (ap (λ p. greater p (parent_phase phases x.p2)) first ∙ ap (greater (parent_phase (phases ++ phase ∷ []) x.p1)) second)
      (elim (get-push entries e rev x there) [
        | inl b ↦ subst (λ p. phase_number (greater (parent_phase phases x.p1) (parent_phase phases x.p2)) ≤ phase_number p) (sym (push-left phases phase rev (let l = there-below entries rev x b in omega (arith, l, c)))) (are.each rev x b)
        | inr b ↦ subst (λ p. phase_number (greater (parent_phase phases x.p1) (parent_phase phases x.p2)) ≤ phase_number p) (sym (push-last phases phase) ∙ ap (λ k. slice_index_or (phases ++ phase ∷ []) k Public) (c ∙ sym b.0))
            (subst (λ (y : Entry). phase_number (greater (parent_phase phases y.p1) (parent_phase phases y.p2)) ≤ phase_number phase) b.1 above)
      ]);
}
