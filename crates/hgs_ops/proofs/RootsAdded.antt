-- The roots that are written of a repository stay where changesets are added, and those of the new ones stand among them.
use Rattle.std.proofs.Common.{◌≡◌, ℕ, suc, ◌+◌, ◌<◌, ◌≤◌, List, [], ◌∷◌, ◌++◌, Bool, true, false, cond, ◌&&◌, ◌||◌, not, length, map, refl, sym, ◌∙◌, ap, subst, inl, inr, arith, append_assoc, append-nil, length-append}
use Rattle.std.specs.Prelude.{◌==◌, nat_lt, Option, Some, None, IfSome}
use Rattle.std.proofs.lemmas.List.{length-map}
use Rattle.hgs_bytes.specs.Bytes.{IsPrefixOf, same}
use Rattle.hgs_bytes.specs.Theorems.ByteLemmas.{same-eq, same-refl}
use Rattle.hgs_index.specs.declared.entry.Entry.{Entry}
use Rattle.hgs_index.specs.Revision.{Parents, ParentsBefore}
use Rattle.hgs_index.specs.Theorems.RevlogLemmas.{map-append}
use Rattle.hgs_model.specs.declared.phase.Phase.{Phase}
use Rattle.hgs_model.specs.declared.phase.Phase.TheVariants.{Draft, Public, Secret}
use Rattle.hgs_model.specs.IsRepo.{IsRepo}
use Rattle.hgs_model.specs.Phase.{greater, phase_number}
use Rattle.hgs_model.specs.Repo.{Repo}
use Rattle.hgs_model.specs.Theorems.BeforeLemmas.{changelog-parents}
use Rattle.hgs_phases.specs.declared.roots.Root.{Root}
use Rattle.hgs_phases.specs.Phases.{history_of, parent_phase}
use Rattle.hgs_phases.specs.Printed.{root_at, roots_in}
use Rattle.hgs_phases.specs.Roots.{root_text, roots_text}
use Rattle.hgs_stands.specs.Stands.{changeset_entries}
use Rattle.hgs_stands.specs.Theorems.PhaseLemmas.{entries-parents}
use Rattle.hgs_model.specs.History.{history}
use Rattle.hgs_ops.specs.Replaced.{phase_numbered, roots_change, roots_of}
use Rattle.hgs_model.specs.Theorems.StepLemmas.{length-changeset_nodes}
use Rattle.std.proofs.lemmas.List.{append_cancel_left}
use Rattle.hgs_ops.specs.Theorems.CommitLemmas.{history-more}
use Rattle.hgs_ops.specs.Theorems.NodeLemmas.{entries-count}
use Rattle.hgs_ops.specs.Theorems.RootsStay.{history-count, or-front}
use Rattle.hgs_ops.specs.Theorems.Touch.{bool, never}

-- ---- the roots among the first changesets

low-parent : (ps qs : List Phase) (k : ℕ) (p : Option ℕ) → k ≤ length ps → IfSome p (λ a. a < k) → parent_phase (ps ++ qs) p ≡ parent_phase ps p
low-parent ps qs k None le h = refl
low-parent ps qs k (Some a) le h = or-front ps qs a Public (omega (arith, le, h))

front-roots : (phase : Phase) (ps qs : List Phase) (k : ℕ) (es : List Entry) → k + length es ≤ length ps → ParentsBefore k (history_of es) → roots_in phase (ps ++ qs) k es ≡ roots_in phase ps k es
front-roots phase ps qs k [] le before = refl
front-roots phase ps qs k (e ∷ es) le before =
    (λ i. cond ((phase_number (or-front ps qs k Public (omega (arith, le)) i) == phase_number phase) && nat_lt (phase_number (greater (low-parent ps qs k e.p1 (omega (arith, le)) before.0 i) (low-parent ps qs k e.p2 (omega (arith, le)) before.1 i))) (phase_number phase)) (record { phase = phase; node = e.node } ∷ []) [] ++ roots_in phase (ps ++ qs) (k + 1) es)
    ∙ ap (λ l. root_at phase ps k e ++ l) (front-roots phase ps qs (k + 1) es (omega (arith, le)) (subst (λ n. ParentsBefore n (history_of es)) (let z : suc k ≡ k + 1 = omega arith in z) before.2))

roots-join : (phase : Phase) (ps : List Phase) (k : ℕ) (es fs : List Entry) → roots_in phase ps k (es ++ fs) ≡ roots_in phase ps k es ++ roots_in phase ps (k + length es) fs
roots-join phase ps k [] fs = let z : k ≡ k + 0 = omega arith in ap (λ n. roots_in phase ps n fs) z
roots-join phase ps k (e ∷ es) fs =
    ap (λ l. root_at phase ps k e ++ l) (roots-join phase ps (k + 1) es fs ∙ (let z : (k + 1) + length es ≡ k + suc (length es) = omega arith in ap (λ n. roots_in phase ps (k + 1) es ++ roots_in phase ps n fs) z))
    ∙ sym (append_assoc (root_at phase ps k e) (roots_in phase ps (k + 1) es) (roots_in phase ps (k + suc (length es)) fs))

before-front : (k : ℕ) (xs ys : List Parents) → ParentsBefore k (xs ++ ys) → ParentsBefore k xs
before-front k [] ys h = tt
before-front k (x ∷ xs) ys h = (h.0, h.1, before-front (suc k) xs ys h.2)

-- the roots of a phase among changesets and those behind them
roots-more : (phase : Phase) (ps qs : List Phase) (es fs : List Entry) → length es ≡ length ps → ParentsBefore 0 (history_of (es ++ fs)) → roots_in phase (ps ++ qs) 0 (es ++ fs) ≡ roots_in phase ps 0 es ++ roots_in phase (ps ++ qs) (length es) fs
roots-more phase ps qs es fs len before =
    roots-join phase (ps ++ qs) 0 es fs
    ∙ (let z : 0 + length es ≡ length es = omega arith in ap (λ n. roots_in phase (ps ++ qs) 0 es ++ roots_in phase (ps ++ qs) n fs) z)
    ∙ ap (λ l. l ++ roots_in phase (ps ++ qs) (length es) fs) (front-roots phase ps qs 0 es (omega (arith, len)) (before-front 0 (history_of es) (history_of fs) (subst (ParentsBefore 0) (map-append (λ (x : Entry). (x.p1, x.p2)) es fs) before)))

-- ---- the text

texts-join : (xs ys : List Root) → roots_text (xs ++ ys) ≡ roots_text xs ++ roots_text ys
texts-join [] ys = refl
texts-join (x ∷ xs) ys = ap (λ l. root_text x ++ l) (texts-join xs ys) ∙ sym (append_assoc (root_text x) (roots_text xs) (roots_text ys))

-- whether there are none
abbrev is_none : List Root → Bool
is_none [] = true
is_none (x ∷ xs) = false

some-text : (xs : List Root) → is_none xs ≡ false → 0 < length (roots_text xs)
some-text [] e = never e
some-text (x ∷ xs) e = omega (arith, length-append (root_text x) (roots_text xs))

module _ (a b c d : List Root) where
  abbrev longer : List ℕ
  longer = roots_text ((a ++ b) ++ (c ++ d))

  lengths : length (roots_text ((a ++ b) ++ (c ++ d))) ≡ length (roots_text (a ++ c)) + (length (roots_text b) + length (roots_text d))
  lengths = omega (arith, ap length (texts-join (a ++ b) (c ++ d)), ap length (texts-join a b), ap length (texts-join c d), ap length (texts-join a c), length-append (roots_text (a ++ b)) (roots_text (c ++ d)), length-append (roots_text a) (roots_text b), length-append (roots_text c) (roots_text d), length-append (roots_text a) (roots_text c))

  -- the text is another where one of the two has a root
  text-changes : not (same (roots_text (a ++ c)) (roots_text ((a ++ b) ++ (c ++ d)))) ≡ not (is_none b && is_none d)
  text-changes = by b d refl refl
    where
      other : 0 < length (roots_text b) + length (roots_text d) → same (roots_text (a ++ c)) (roots_text ((a ++ b) ++ (c ++ d))) ≡ false
      other lt = elim (bool (same (roots_text (a ++ c)) (roots_text ((a ++ b) ++ (c ++ d))))) [
        | inl e ↦ absurd (omega (arith, lt, lengths, ap (λ (l : List ℕ). length l) (same-eq (roots_text (a ++ c)) (roots_text ((a ++ b) ++ (c ++ d))) e)))
        | inr e ↦ e
      ]

      by : (x y : List Root) → x ≡ b → y ≡ d → not (same (roots_text (a ++ c)) (roots_text ((a ++ b) ++ (c ++ d)))) ≡ not (is_none x && is_none y)
      by [] [] eb ed = ap not (ap (λ z. same (roots_text (a ++ c)) (roots_text z)) (sym (λ i. (a ++ eb i) ++ (c ++ ed i)) ∙ (λ i. append-nil a i ++ append-nil c i)) ∙ same-refl (roots_text (a ++ c)))
      by [] (y ∷ ys) eb ed = ap not (other (let lt = some-text d (ap is_none (sym ed)) in omega (arith, lt)))
      by (x ∷ xs) y eb ed = ap not (other (let lt = some-text b (ap is_none (sym eb)) in omega (arith, lt)))

-- ---- repositories that go on

-- one repository goes on from another
pub record GoesOn (r next : Repo) : Type 0 where
  pub changesets : IsPrefixOf r.changesets next.changesets
  pub phases : IsPrefixOf r.phases next.phases
  pub before : IsRepo r
  pub behind : IsRepo next

entries-length : (r : Repo) → IsRepo r → length (changeset_entries r.changesets) ≡ length (map phase_numbered r.phases)
entries-length r is = omega (arith, entries-count r, length-changeset_nodes r is, is.phase_count, length-map r.phases phase_numbered)

parents-before : (r : Repo) → IsRepo r → ParentsBefore 0 (history_of (changeset_entries r.changesets))
parents-before r is = subst (ParentsBefore 0) (sym (entries-parents (history r.changesets).changelog ∙ changelog-parents r is)) is.parents

before-behind : (k : ℕ) (xs ys : List Parents) → ParentsBefore k (xs ++ ys) → ParentsBefore (k + length xs) ys
before-behind k [] ys h = subst (λ n. ParentsBefore n ys) (let z : k ≡ k + 0 = omega arith in z) h
before-behind k (x ∷ xs) ys h = subst (λ n. ParentsBefore n ys) (let z : suc k + length xs ≡ k + suc (length xs) = omega arith in z) (before-behind (suc k) xs ys h.2)

none-join : (xs ys : List Root) → is_none (xs ++ ys) ≡ is_none xs && is_none ys
none-join [] ys = refl
none-join (x ∷ xs) ys = refl

-- the roots among the changesets that were added
abbrev new_in : (r next : Repo) → GoesOn r next → Phase → List Root
new_in r next g phase = roots_in phase (map phase_numbered next.phases) (length (changeset_entries r.changesets)) (history-more r next g.changesets).0

roots-with : (r next : Repo) (g : GoesOn r next) (phase : Phase) → roots_in phase (map phase_numbered next.phases) 0 (changeset_entries next.changesets) ≡ roots_in phase (map phase_numbered r.phases) 0 (changeset_entries r.changesets) ++ new_in r next g phase
roots-with r next g phase =
    let more = history-more r next g.changesets in
    let old = changeset_entries r.changesets in
    let ps : map phase_numbered next.phases ≡ map phase_numbered r.phases ++ map phase_numbered g.phases.0 = ap (map phase_numbered) g.phases.1 ∙ map-append phase_numbered r.phases g.phases.0 in
    (λ i. roots_in phase (ps i) 0 (more.1 i))
    ∙ roots-more phase (map phase_numbered r.phases) (map phase_numbered g.phases.0) old more.0 (entries-length r g.before) (subst (λ es. ParentsBefore 0 (history_of es)) more.1 (parents-before next g.behind))
    ∙ ap (λ l. roots_in phase (map phase_numbered r.phases) 0 old ++ roots_in phase l (length old) more.0) (sym ps)

-- the roots that are written change where one of the added changesets is one
roots-added : (r next : Repo) (g : GoesOn r next) → roots_change r next ≡ not (is_none (new_in r next g Draft) && is_none (new_in r next g Secret))
roots-added r next g =
    ap (λ (l : List Root). not (same (roots_of r) (roots_text l))) (λ i. roots-with r next g Draft i ++ roots-with r next g Secret i)
    ∙ text-changes (roots_in Draft (map phase_numbered r.phases) 0 (changeset_entries r.changesets)) (new_in r next g Draft) (roots_in Secret (map phase_numbered r.phases) 0 (changeset_entries r.changesets)) (new_in r next g Secret)

-- ---- one after another

pub prefix-trans : {A : Type 0} (xs ys zs : List A) → IsPrefixOf xs ys → IsPrefixOf ys zs → IsPrefixOf xs zs
prefix-trans xs ys zs p q = (p.0 ++ q.0, q.1 ∙ ap (λ l. l ++ q.0) p.1 ∙ append_assoc xs p.0 q.0)

pub goes-on : (r mid next : Repo) → GoesOn r mid → GoesOn mid next → GoesOn r next
goes-on r mid next a b = record { changesets = prefix-trans r.changesets mid.changesets next.changesets a.changesets b.changesets; phases = prefix-trans r.phases mid.phases next.phases a.phases b.phases; before = a.before; behind = b.behind }

new-two : (r mid next : Repo) (a : GoesOn r mid) (b : GoesOn mid next) (g : GoesOn r next) (phase : Phase) → new_in r next g phase ≡ new_in r mid a phase ++ new_in mid next b phase
new-two r mid next a b g phase =
    ap (λ fs. roots_in phase (map phase_numbered next.phases) (length old) fs) joined
    ∙ roots-join phase (map phase_numbered next.phases) (length old) one.0 two.0
    ∙ (λ i. front i ++ roots_in phase (map phase_numbered next.phases) (len i) two.0)
  where
    old : List Entry
    old = changeset_entries r.changesets

    one : IsPrefixOf (changeset_entries r.changesets) (changeset_entries mid.changesets)
    one = history-more r mid a.changesets

    two : IsPrefixOf (changeset_entries mid.changesets) (changeset_entries next.changesets)
    two = history-more mid next b.changesets

    all : IsPrefixOf (changeset_entries r.changesets) (changeset_entries next.changesets)
    all = history-more r next g.changesets

    joined : all.0 ≡ one.0 ++ two.0
    joined = append_cancel_left old all.0 (one.0 ++ two.0) (sym all.1 ∙ two.1 ∙ ap (λ l. l ++ two.0) one.1 ∙ append_assoc old one.0 two.0)

    len : length old + length one.0 ≡ length (changeset_entries mid.changesets)
    len = sym (length-append old one.0) ∙ ap (λ (l : List Entry). length l) (sym one.1)

    ps : map phase_numbered next.phases ≡ map phase_numbered mid.phases ++ map phase_numbered b.phases.0
    ps = ap (map phase_numbered) b.phases.1 ∙ map-append phase_numbered mid.phases b.phases.0

    before : ParentsBefore (length old) (history_of one.0)
    before = subst (λ n. ParentsBefore n (history_of one.0)) (let z : 0 + length (history_of old) ≡ length old = omega (arith, history-count old) in z)
        (before-behind 0 (history_of old) (history_of one.0) (subst (ParentsBefore 0) (ap history_of one.1 ∙ map-append (λ (x : Entry). (x.p1, x.p2)) old one.0) (parents-before mid a.behind)))

    front : roots_in phase (map phase_numbered next.phases) (length old) one.0 ≡ roots_in phase (map phase_numbered mid.phases) (length old) one.0
    front = ap (λ l. roots_in phase l (length old) one.0) ps ∙ front-roots phase (map phase_numbered mid.phases) (map phase_numbered b.phases.0) (length old) one.0 (omega (arith, len, entries-length mid b.before)) before

pub roots-two : (r mid next : Repo) → GoesOn r mid → GoesOn mid next → roots_change r next ≡ roots_change r mid || roots_change mid next
roots-two r mid next a b =
    let g = goes-on r mid next a b in
    roots-added r next g
    ∙ (λ i. not (is_none (new-two r mid next a b g Draft i) && is_none (new-two r mid next a b g Secret i)))
    ∙ (λ i. not (none-join (new_in r mid a Draft) (new_in mid next b Draft) i && none-join (new_in r mid a Secret) (new_in mid next b Secret) i))
    ∙ both (is_none (new_in r mid a Draft)) (is_none (new_in mid next b Draft)) (is_none (new_in r mid a Secret)) (is_none (new_in mid next b Secret))
    ∙ sym (λ i. roots-added r mid a i || roots-added mid next b i)
  where
    both : (w x y z : Bool) → not ((w && x) && (y && z)) ≡ not (w && y) || not (x && z)
    both true true true z = refl
    both true true false z = refl
    both true false true z = refl
    both true false false z = refl
    both false x y z = refl
