-- The roots that are written of phases, and the phases that they give.
use Rattle.std.proofs.Common.{◌≡◌, ◌<◌, ◌≤◌, ℕ, zero, suc, ◌+◌, Bool, true, false, ◌&&◌, List, [], ◌∷◌, ◌++◌, length, Option, Some, None, Ok, refl, sym, ◌∙◌, ap, subst, arith}
use Rattle.std.specs.Prelude.{◌==◌, nat_lt, IfSome, slice_get, slice_index_or, if◌then◌else◌}
use Rattle.std.specs.List.{AllByRecursion}
use Rattle.std.proofs.lemmas.Bool.Decides.{nat_tests}
use Rattle.hgs_index.specs.Revision.{Parents, ParentsBefore}
use Rattle.hgs_index.specs.declared.entry.Entry.{Entry}
use Rattle.hgs_revlog.specs.Log.{place_of}
use Rattle.hgs_model.specs.declared.phase.Phase.{Phase}
use Rattle.hgs_model.specs.declared.phase.Phase.TheVariants.{Public, Draft, Secret}
use Rattle.hgs_phases.specs.declared.roots.Root.{Root}
use Rattle.hgs_phases.specs.Changelog.{HaveNodes, IsChangelog, ArePhases}
use Rattle.hgs_model.specs.Phase.{phase_number, greater}
use Rattle.hgs_phases.specs.Phases.{history_of, parent_phase, phase_by, phases_by, own_phase, stands_at}
use Rattle.hgs_phases.specs.Printed.{is_root, root_at, roots_in, written_roots}
use Rattle.hgs_phases.specs.Roots.{HasNode, read_roots, roots_text}
use Rattle.hgs_phases.specs.Theorems.AdvanceLemmas.{get-there}
use Rattle.hgs_phases.specs.Theorems.PhaseLemmas.{some_is, same-number, greater-assoc, greater-public, earlier, phase_of_parent, phase_step, history-at, by_place}
use Rattle.hgs_phases.specs.Theorems.RootTextLemmas.{roots_back}

-- ---- each has a node

all-append : (rs ss : List Root) → AllByRecursion HasNode rs → AllByRecursion HasNode ss → AllByRecursion HasNode (rs ++ ss)
all-append [] ss h k = k
all-append (r ∷ rs) ss h k = (h.0, all-append rs ss h.1 k)

nodes-at : (b : Bool) (phase : Phase) (e : Entry) → HasNode (record { phase = phase; node = e.node }) → AllByRecursion HasNode (if b then record { phase = phase; node = e.node } ∷ [] else [])
nodes-at true phase e h = (h, tt)
nodes-at false phase e h = tt

nodes-in : (phase : Phase) (phases : List Phase) (rev : ℕ) (entries : List Entry) → HaveNodes entries → AllByRecursion HasNode (roots_in phase phases rev entries)
nodes-in phase phases rev [] h = tt
nodes-in phase phases rev (e ∷ entries) h =
    all-append (root_at phase phases rev e) (roots_in phase phases (rev + 1) entries) (nodes-at (is_root phase phases rev e) phase e (h 0 e refl)) (nodes-in phase phases (rev + 1) entries (λ i x k. h (suc i) x k))

pub written_read : (entries : List Entry) (phases : List Phase) → HaveNodes entries → read_roots (roots_text (written_roots phases entries)) ≡ Ok (written_roots phases entries)
written_read entries phases h =
    roots_back 0 (written_roots phases entries) (all-append (roots_in Draft phases 0 entries) (roots_in Secret phases 0 entries) (nodes-in Draft phases 0 entries h) (nodes-in Secret phases 0 entries h))

-- ---- the phases that they give

own-append : (rs ss : List Root) (entries : List Entry) (rev : ℕ) → own_phase (rs ++ ss) entries rev ≡ greater (own_phase rs entries rev) (own_phase ss entries rev)
own-append [] ss entries rev = refl
own-append (r ∷ rs) ss entries rev =
    ap (greater (if stands_at (place_of entries r.node.0) rev then r.phase else Public)) (own-append rs ss entries rev)
    ∙ sym (greater-assoc (if stands_at (place_of entries r.node.0) rev then r.phase else Public) (own_phase rs entries rev) (own_phase ss entries rev))

own-at : (b : Bool) (phase : Phase) (i : ℕ) (e : Entry) (entries : List Entry) (rev : ℕ) → place_of entries e.node.0 ≡ Some i →
    own_phase (if b then record { phase = phase; node = e.node } ∷ [] else []) entries rev ≡ (if b then (if i == rev then phase else Public) else Public)
own-at true phase i e entries rev place = greater-public (if stands_at (place_of entries e.node.0) rev then phase else Public) ∙ ap (λ o. if stands_at o rev then phase else Public) place
own-at false phase i e entries rev place = refl

apart : (b c : Bool) (phase : Phase) → c ≡ false → (if b then (if c then phase else Public) else Public) ≡ Public
apart true c phase e = ap (λ x. if x then phase else Public) e
apart false c phase e = refl

not-same : (a b : ℕ) → b < a → (a == b) ≡ false
not-same a b lt = grind (arith, nat_tests)

not-same-up : (a b : ℕ) → a < b → (a == b) ≡ false
not-same-up a b lt = grind (arith, nat_tests)

-- where these entries stand, the first having this revision
abbrev StandFrom : List Entry → ℕ → List Entry → Type 0
StandFrom entries k es = (j : ℕ) (x : Entry) → slice_get es j ≡ Some x → place_of entries x.node.0 ≡ Some (k + j)

first-stands : (entries es : List Entry) (k : ℕ) (e : Entry) → StandFrom entries k (e ∷ es) → place_of entries e.node.0 ≡ Some k
first-stands entries es k e stand = stand 0 e refl ∙ (let n : k + 0 ≡ k = omega arith in ap (λ m. Some m) n)

others-stand : (entries es : List Entry) (k : ℕ) (e : Entry) → StandFrom entries k (e ∷ es) → StandFrom entries (k + 1) es
others-stand entries es k e stand j x h = stand (suc j) x h ∙ (let n : k + suc j ≡ (k + 1) + j = omega arith in ap (λ m. Some m) n)

own-below : (phase : Phase) (phases : List Phase) (k : ℕ) (es entries : List Entry) (rev : ℕ) → StandFrom entries k es → rev < k → own_phase (roots_in phase phases k es) entries rev ≡ Public
own-below phase phases k [] entries rev stand lt = refl
own-below phase phases k (e ∷ es) entries rev stand lt =
    own-append (root_at phase phases k e) (roots_in phase phases (k + 1) es) entries rev
    ∙ ap (λ x. greater x (own_phase (roots_in phase phases (k + 1) es) entries rev))
    (own-at (is_root phase phases k e) phase k e entries rev (first-stands entries es k e stand) ∙ apart (is_root phase phases k e) (k == rev) phase (not-same k rev lt))
    ∙ own-below phase phases (k + 1) es entries rev (others-stand entries es k e stand) (omega (arith, lt))

own-in : (phase : Phase) (phases : List Phase) (k : ℕ) (es entries : List Entry) (rev j : ℕ) (x : Entry) → StandFrom entries k es → rev ≡ k + j → slice_get es j ≡ Some x →
    own_phase (roots_in phase phases k es) entries rev ≡ (if is_root phase phases rev x then phase else Public)
own-in phase phases k [] entries rev j x stand at there = cc
own-in phase phases k (e ∷ es) entries rev zero x stand at there =
    let here : k ≡ rev = omega (arith, at) in
    own-append (root_at phase phases k e) (roots_in phase phases (k + 1) es) entries rev
    ∙ ap (greater (own_phase (root_at phase phases k e) entries rev)) (own-below phase phases (k + 1) es entries rev (others-stand entries es k e stand) (omega (arith, at)))
    ∙ greater-public (own_phase (root_at phase phases k e) entries rev)
    ∙ own-at (is_root phase phases k e) phase k e entries rev (first-stands entries es k e stand)
    ∙ ap (λ m. if is_root phase phases m e then (if m == rev then phase else Public) else Public) here
    ∙ ap (λ b. if is_root phase phases rev e then (if b then phase else Public) else Public) (same-number rev)
    ∙ ap (λ y. if is_root phase phases rev y then phase else Public) (some_is e x there)
own-in phase phases k (e ∷ es) entries rev (suc j) x stand at there =
    own-append (root_at phase phases k e) (roots_in phase phases (k + 1) es) entries rev
    ∙ ap (λ y. greater y (own_phase (roots_in phase phases (k + 1) es) entries rev))
    (own-at (is_root phase phases k e) phase k e entries rev (first-stands entries es k e stand) ∙ apart (is_root phase phases k e) (k == rev) phase (not-same-up k rev (omega (arith, at))))
    ∙ own-in phase phases (k + 1) es entries rev j x (others-stand entries es k e stand) (omega (arith, at)) there

-- a root of its phase or the phase of a parent
by-cases : (own inherited : Phase) → phase_number inherited ≤ phase_number own →
    greater (greater (if (phase_number own == phase_number Draft) && nat_lt (phase_number inherited) (phase_number Draft) then Draft else Public) (if (phase_number own == phase_number Secret) && nat_lt (phase_number inherited) (phase_number Secret) then Secret else Public)) inherited ≡ own
by-cases Public Public h = refl
by-cases Public Draft h = absurd (omega (arith, h))
by-cases Public Secret h = absurd (omega (arith, h))
by-cases Draft Public h = refl
by-cases Draft Draft h = refl
by-cases Draft Secret h = absurd (omega (arith, h))
by-cases Secret Public h = refl
by-cases Secret Draft h = refl
by-cases Secret Secret h = refl

before-at : (k : ℕ) (history : List Parents) (i : ℕ) (p : Parents) → ParentsBefore k history → slice_get history i ≡ Some p → IfSome p.0 (λ a. a < k + i) × IfSome p.1 (λ b. b < k + i)
before-at k [] i p h e = cc
before-at k (q ∷ history) zero p h e =
    let is = some_is q p e in
    let n : k ≡ k + 0 = omega arith in
    subst (λ (r : Parents). IfSome r.0 (λ a. a < k + 0) × IfSome r.1 (λ b. b < k + 0)) is (subst (λ m. IfSome q.0 (λ a. a < m) × IfSome q.1 (λ b. b < m)) n (h.0, h.1))
before-at k (q ∷ history) (suc i) p h e =
    let n : suc k + i ≡ k + suc i = omega arith in
    subst (λ m. IfSome p.0 (λ a. a < m) × IfSome p.1 (λ b. b < m)) n (before-at (suc k) history i p h.2 e)

pub parents_low : (entries : List Entry) (rev : ℕ) (e : Entry) → ParentsBefore 0 (history_of entries) → slice_get entries rev ≡ Some e → IfSome e.p1 (λ a. a < rev) × IfSome e.p2 (λ b. b < rev)
parents_low entries rev e order there =
    let n : 0 + rev ≡ rev = omega arith in
    subst (λ m. IfSome e.p1 (λ a. a < m) × IfSome e.p2 (λ b. b < m)) n (before-at 0 (history_of entries) rev (e.p1, e.p2) order (history-at entries rev e there))

pub earlier-all : (n : ℕ) (o : Option ℕ) → IfSome o (λ a. a < n) → earlier n o ≡ o
earlier-all n None low = refl
earlier-all n (Some q) low = ap (λ b. if b then Some q else None) (is q n low)
  where
    is : (a b : ℕ) → a < b → nat_lt a b ≡ true
    is a b lt = grind (arith, nat_tests)

parent-same : (roots : List Root) (entries : List Entry) (phases : List Phase) (n : ℕ) (o : Option ℕ) → ((q : ℕ) → q < n → phase_by roots entries q ≡ slice_index_or phases q Public) → IfSome o (λ a. a < n) → phase_of_parent roots entries o ≡ parent_phase phases o
parent-same roots entries phases n None known low = refl
parent-same roots entries phases n (Some q) known low = known q low

given-back : (entries : List Entry) (phases : List Phase) → IsChangelog entries → ArePhases entries phases → (n rev : ℕ) → rev < n → rev < length entries → phase_by (written_roots phases entries) entries rev ≡ slice_index_or phases rev Public
given-back entries phases log are zero rev fuel lt = absurd (omega (arith, fuel))
given-back entries phases log are (suc n) rev fuel lt =
    let e = get-there entries rev lt in
    let low = parents_low entries rev e.0 log.earlier e.1 in
    let known : (q : ℕ) → q < rev → phase_by (written_roots phases entries) entries q ≡ slice_index_or phases q Public = (λ q less. given-back entries phases log are n q (omega (arith, less, fuel)) (omega (arith, less, lt))) in
    let stand : StandFrom entries 0 entries = (λ j x h. log.own j x h ∙ (let m : j ≡ 0 + j = omega arith in ap (λ i. Some i) m)) in
    let from : rev ≡ 0 + rev = omega arith in
    phase_step (written_roots phases entries) entries rev (e.0.p1, e.0.p2) (history-at entries rev e.0 e.1)
    ∙ ap (λ o. greater (own_phase (written_roots phases entries) entries rev) (greater (phase_of_parent (written_roots phases entries) entries o) (phase_of_parent (written_roots phases entries) entries (earlier rev e.0.p2)))) (earlier-all rev e.0.p1 low.0)
    ∙ ap (λ o. greater (own_phase (written_roots phases entries) entries rev) (greater (phase_of_parent (written_roots phases entries) entries e.0.p1) (phase_of_parent (written_roots phases entries) entries o))) (earlier-all rev e.0.p2 low.1)
    ∙ ap (λ x. greater (own_phase (written_roots phases entries) entries rev) (greater x (phase_of_parent (written_roots phases entries) entries e.0.p2))) (parent-same (written_roots phases entries) entries phases rev e.0.p1 known low.0)
    ∙ ap (λ x. greater (own_phase (written_roots phases entries) entries rev) (greater (parent_phase phases e.0.p1) x)) (parent-same (written_roots phases entries) entries phases rev e.0.p2 known low.1)
    ∙ ap (λ x. greater x (greater (parent_phase phases e.0.p1) (parent_phase phases e.0.p2)))
    (own-append (roots_in Draft phases 0 entries) (roots_in Secret phases 0 entries) entries rev
    ∙ ap (λ x. greater x (own_phase (roots_in Secret phases 0 entries) entries rev)) (own-in Draft phases 0 entries entries rev rev e.0 stand from e.1)
    ∙ ap (greater (if is_root Draft phases rev e.0 then Draft else Public)) (own-in Secret phases 0 entries entries rev rev e.0 stand from e.1))
    ∙ by-cases (slice_index_or phases rev Public) (greater (parent_phase phases e.0.p1) (parent_phase phases e.0.p2)) (are.each rev e.0 e.1)

pub written_same : (entries : List Entry) (phases : List Phase) → IsChangelog entries → ArePhases entries phases → phases_by (written_roots phases entries) entries ≡ phases
written_same entries phases log are =
    sym (by_place Public (phase_by (written_roots phases entries) entries) phases 0 (length entries) are.count
    (λ i lt. sym (given-back entries phases log are (suc i) i (omega arith) lt) ∙ (let z : i ≡ 0 + i = omega arith in ap (phase_by (written_roots phases entries) entries) z)))
