-- Phases come of nodes and parents alone.
use Rattle.std.proofs.Common.{◌≡◌, ℕ, cond, List, [], ◌∷◌, length, map, refl, sym, ◌∙◌, ap}
use Rattle.std.specs.Prelude.{position}
use Rattle.std.specs.List.{range_with_len}
use Rattle.std.proofs.lemmas.List.{length-map}
use Rattle.hgs_bytes.specs.Bytes.{same}
use Rattle.hgs_index.specs.declared.entry.Entry.{Entry}
use Rattle.hgs_model.specs.declared.phase.Phase.TheVariants.{Public}
use Rattle.hgs_model.specs.Phase.{greater}
use Rattle.hgs_phases.specs.declared.roots.Root.{Root}
use Rattle.hgs_phases.specs.Phases.{history_of, phase_by, phases_by, reaches}
use Rattle.hgs_revlog.specs.Log.{nodes_of, place_of}
use Rattle.hgs_revlog.specs.Theorems.TailHeldLemmas.{position_map}

place-same : (a b : List Entry) (node : List ℕ) → nodes_of a ≡ nodes_of b → place_of a node ≡ place_of b node
place-same a b node e =
    sym (position_map (λ (x : Entry). x.node.0) (λ n. same n node) a) ∙ ap (position (λ n. same n node)) e ∙ position_map (λ (x : Entry). x.node.0) (λ n. same n node) b

phase-same : (roots : List Root) (a b : List Entry) (rev : ℕ) → nodes_of a ≡ nodes_of b → history_of a ≡ history_of b → phase_by roots a rev ≡ phase_by roots b rev
phase-same [] a b rev n h = refl
phase-same (r ∷ roots) a b rev n h =
    ap (λ x. greater (cond (reaches x (place_of a r.node.0) rev) r.phase Public) (phase_by roots a rev)) h
    ∙ ap (λ x. greater (cond (reaches (history_of b) x rev) r.phase Public) (phase_by roots a rev)) (place-same a b r.node.0 n)
    ∙ ap (λ x. greater (cond (reaches (history_of b) (place_of b r.node.0) rev) r.phase Public) x) (phase-same roots a b rev n h)

pub phases-same : (roots : List Root) (a b : List Entry) → nodes_of a ≡ nodes_of b → history_of a ≡ history_of b → phases_by roots a ≡ phases_by roots b
phases-same roots a b n h =
    ap (λ f. map f (range_with_len 0 (length a))) (each)
    ∙ ap (λ k. map (phase_by roots b) (range_with_len 0 k)) (sym (length-map a (λ (x : Entry). x.node.0)) ∙ ap length n ∙ length-map b (λ (x : Entry). x.node.0))
  where
    each : phase_by roots a ≡ phase_by roots b
    each i rev = phase-same roots a b rev n h i
