-- Changesets before the first root, which are public.
use Rattle.std.proofs.Common.{◌≡◌, ℕ, zero, suc, ◌+◌, ◌<◌, ◌≤◌, List, [], ◌∷◌, length, take, Option, Some, None, refl, sym, ◌∙◌, ap, subst, arith}
use Rattle.std.specs.Prelude.{slice_get, slice_index_or, slice_set}
use Rattle.std.proofs.lemmas.List.{set-get_or}
use Rattle.hgs_index.specs.declared.entry.Entry.{Entry}
use Rattle.hgs_model.specs.declared.phase.Phase.{Phase}
use Rattle.hgs_model.specs.declared.phase.Phase.TheVariants.{Public}
use Rattle.hgs_model.specs.Phase.{greater}
use Rattle.hgs_phases.specs.declared.roots.Root.{Root}
use Rattle.hgs_phases.specs.Phases.{AreFrontPublic, AreOwn, parent_phase, raised}
use Rattle.hgs_phases.specs.Theorems.PhaseLemmas.{UpTo, up_next}

get_entry : (entries : List Entry) (n : ℕ) → n < length entries → (e : Entry) × (slice_get entries n ≡ Some e)
get_entry [] n lt = absurd (omega (arith, lt))
get_entry (e ∷ entries) zero lt = (e, refl)
get_entry (e ∷ entries) (suc n) lt = get_entry entries n (omega (arith, lt))

front_public : (n q : ℕ) (phases : List Phase) → AreFrontPublic n phases → Public ≡ slice_index_or (take n phases) q Public
front_public zero q phases front = refl
front_public (suc n) q [] front = refl
front_public (suc n) zero (p ∷ phases) front = sym (front 0 (omega arith))
front_public (suc n) (suc q) (p ∷ phases) front = front_public n q phases (λ rev lt. front (suc rev) (omega (arith, lt)))

parent_public : (n : ℕ) (phases : List Phase) → AreFrontPublic n phases → (o : Option ℕ) → Public ≡ parent_phase (take n phases) o
parent_public n phases front None = refl
parent_public n phases front (Some q) = front_public n q phases front

pub front_up : (n : ℕ) (roots : List Root) (entries : List Entry) (phases : List Phase) → AreOwn roots entries phases → AreFrontPublic n phases → n ≤ length phases → UpTo n roots entries phases
front_up zero roots entries phases own front le = record { count = own.count; before = λ rev lt. absurd (omega (arith, lt)); behind = λ rev le lt. own.each rev lt }
front_up (suc n) roots entries phases own front le =
    let count = own.count in
    let lt : n < length entries = omega (arith, le, count) in
    let found = get_entry entries n lt in
    let before : AreFrontPublic n phases = λ rev low. front rev (omega (arith, low)) in
    let up = front_up n roots entries phases own before (omega (arith, le)) in
    let here : slice_index_or phases n Public ≡ Public = front n (omega arith) in
    let same : phases ≡ raised phases n (greater (parent_phase (take n phases) found.0.p1) (parent_phase (take n phases) found.0.p2)) =
    sym (set-get_or phases n Public)
    ∙ ap (slice_set phases n) (here ∙ (λ i. greater (sym here i) (greater (parent_public n phases before found.0.p1 i) (parent_public n phases before found.0.p2 i)))) in
    let next = up_next n roots entries phases phases found.0 found.1 lt up same in
    subst (λ k. UpTo k roots entries phases) (let one : n + 1 ≡ suc n = omega arith in one) next
