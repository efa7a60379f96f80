-- Phases that are moved, one changeset after another.
use Rattle.std.proofs.Common.{take, ◌≡◌, ◌≢◌, ◌<◌, ◌≤◌, ℕ, ◌+◌, Bool, true, false, ◌||◌, List, length, Option, Some, None, refl, sym, ◌∙◌, ap, inl, inr, arith}
use Rattle.std.specs.Prelude.{◌==◌, IfSome, slice_get, slice_index_or, slice_set, if◌then◌else◌}
use Rattle.std.proofs.lemmas.List.{get_or-set_same, get_or-set_other, length-set}
use Rattle.hgs_index.specs.Ancestor.{is_ancestor}
use Rattle.hgs_index.specs.Revision.{Parents}
use Rattle.hgs_index.specs.declared.entry.Entry.{Entry}
use Rattle.hgs_model.specs.declared.phase.Phase.{Phase}
use Rattle.hgs_model.specs.declared.phase.Phase.TheVariants.{Public}
use Rattle.hgs_model.specs.Phase.{greater}
use Rattle.hgs_phases.specs.Phases.{history_of, raised}
use Rattle.hgs_phases.specs.Moves.{retracted, retracted_at, is_marked}
use Rattle.hgs_phases.specs.Theorems.PhaseLemmas.{reaches_parent, earlier, earlier-low, cut-some, ancestor_step, below-or-here, history-at, by_place}

-- the first n changesets are raised, and marked where they are descendants
pub record Raised (n : ℕ) (history : List Parents) (rev : ℕ) (to : Phase) (old phases : List Phase) (marks : List Bool) : Type 0 where
  pub count : length phases ≡ length old
  pub marked : length marks ≡ length old
  pub reached : (i : ℕ) → i < n → slice_index_or marks i false ≡ is_ancestor history rev i
  pub before : (i : ℕ) → i < n → slice_index_or phases i Public ≡ retracted_at history rev to old i
  pub behind : (i : ℕ) → n ≤ i → slice_index_or phases i Public ≡ slice_index_or old i Public

raised-same : (b : Bool) (phases : List Phase) (n : ℕ) (to : Phase) → n < length phases → slice_index_or (if b then raised phases n to else phases) n Public ≡ (if b then greater (slice_index_or phases n Public) to else slice_index_or phases n Public)
raised-same true phases n to lt = get_or-set_same phases n (greater (slice_index_or phases n Public) to) Public lt
raised-same false phases n to lt = refl

raised-other : (b : Bool) (phases : List Phase) (n i : ℕ) (to : Phase) → i ≢ n → slice_index_or (if b then raised phases n to else phases) i Public ≡ slice_index_or phases i Public
raised-other true phases n i to ne = get_or-set_other phases n i (greater (slice_index_or phases n Public) to) Public ne
raised-other false phases n i to ne = refl

raised-length : (b : Bool) (phases : List Phase) (n : ℕ) (to : Phase) → length (if b then raised phases n to else phases) ≡ length phases
raised-length true phases n to = length-set phases n (greater (slice_index_or phases n Public) to)
raised-length false phases n to = refl

marked-parent : (history : List Parents) (rev n : ℕ) (marks : List Bool) → ((i : ℕ) → i < n → slice_index_or marks i false ≡ is_ancestor history rev i) → (o : Option ℕ) → IfSome o (λ a. a < n) → is_marked marks o ≡ reaches_parent history rev o
marked-parent history rev n marks h None low = refl
marked-parent history rev n marks h (Some q) low = h q low

marks-cut : (n : ℕ) (marks : List Bool) (o : Option ℕ) → is_marked (take n marks) o ≡ is_marked marks (earlier n o)
marks-cut n marks None = refl
marks-cut n marks (Some q) = cut-some false n marks q (is_marked marks) refl refl

earlier-marked : (history : List Parents) (rev n : ℕ) (marks : List Bool) → ((i : ℕ) → i < n → slice_index_or marks i false ≡ is_ancestor history rev i) → (o : Option ℕ) → is_marked (take n marks) o ≡ reaches_parent history rev (earlier n o)
earlier-marked history rev n marks h o = marks-cut n marks o ∙ marked-parent history rev n marks h (earlier n o) (earlier-low n o)

pub raised_next : (n : ℕ) (entries : List Entry) (rev : ℕ) (to : Phase) (old phases new : List Phase) (marks more : List Bool) (reached : Bool) (e : Entry) → slice_get entries n ≡ Some e → n < length entries → length old ≡ length entries →
    Raised n (history_of entries) rev to old phases marks → reached ≡ ((rev == n) || (is_marked (take n marks) e.p1 || is_marked (take n marks) e.p2)) → new ≡ (if reached then raised phases n to else phases) → more ≡ slice_set marks n reached →
    Raised (n + 1) (history_of entries) rev to old new more
raised_next n entries rev to old phases new marks more reached e there lt same r is phases-is marks-is =
    let here = history-at entries n e there in
    let count = r.count in
    let marked = r.marked in
    let found : reached ≡ is_ancestor (history_of entries) rev n =
    is ∙ ap (λ b. (rev == n) || (b || is_marked (take n marks) e.p2)) (earlier-marked (history_of entries) rev n marks r.reached e.p1)
    ∙ ap (λ b. (rev == n) || (reaches_parent (history_of entries) rev (earlier n e.p1) || b)) (earlier-marked (history_of entries) rev n marks r.reached e.p2)
    ∙ sym (ancestor_step (history_of entries) rev n (e.p1, e.p2) here) in
    let now : slice_index_or (if reached then raised phases n to else phases) n Public ≡ retracted_at (history_of entries) rev to old n =
    raised-same reached phases n to (omega (arith, count, lt, same))
    ∙ ap (λ p. if reached then greater p to else p) (r.behind n (omega arith))
    ∙ ap (λ b. if b then greater (slice_index_or old n Public) to else slice_index_or old n Public) found in
    record {
      count = ap length phases-is ∙ raised-length reached phases n to ∙ r.count;
      marked = ap length marks-is ∙ length-set marks n reached ∙ r.marked;
      reached = λ i l. ap (λ ms. slice_index_or ms i false) marks-is ∙ elim (below-or-here n i l) [
        | inl b ↦ get_or-set_other marks n i reached false (λ k. absurd (omega (arith, b, k))) ∙ r.reached i b
        | inr b ↦ ap (λ k. slice_index_or (slice_set marks n reached) k false) b ∙ get_or-set_same marks n reached false (omega (arith, marked, lt, same)) ∙ found ∙ ap (is_ancestor (history_of entries) rev) (sym b)
      ];
      before = λ i l. ap (λ ps. slice_index_or ps i Public) phases-is ∙ elim (below-or-here n i l) [
        | inl b ↦ raised-other reached phases n i to (λ k. absurd (omega (arith, b, k))) ∙ r.before i b
        | inr b ↦ ap (λ k. slice_index_or (if reached then raised phases n to else phases) k Public) b ∙ now ∙ ap (retracted_at (history_of entries) rev to old) (sym b)
      ];
      behind = λ i l. ap (λ ps. slice_index_or ps i Public) phases-is ∙ raised-other reached phases n i to (λ k. absurd (omega (arith, l, k))) ∙ r.behind i (omega (arith, l));
    }

pub all_raised : (n : ℕ) (history : List Parents) (rev : ℕ) (to : Phase) (old phases : List Phase) (marks : List Bool) → length old ≤ n → Raised n history rev to old phases marks → phases ≡ retracted history rev to old
all_raised n history rev to old phases marks past r =
    by_place Public (retracted_at history rev to old) phases 0 (length old) r.count (λ i lt. r.before i (omega (arith, lt, past)) ∙ (let z : i ≡ 0 + i = omega arith in ap (retracted_at history rev to old) z))
