-- Moves keep the number of phases.
use Rattle.std.proofs.Common.{◌≡◌, ℕ, List, length}
use Rattle.std.proofs.lemmas.List.FromFn.{length-map-range_with_len}
use Rattle.hgs_index.specs.Revision.{Parents}
use Rattle.hgs_model.specs.declared.phase.Phase.{Phase}
use Rattle.hgs_phases.specs.Moves.{advanced, advanced_at, retracted, retracted_at}

pub length_advanced : (history : List Parents) (rev : ℕ) (to : Phase) (phases : List Phase) → length (advanced history rev to phases) ≡ length phases
length_advanced history rev to phases = length-map-range_with_len (advanced_at history rev to phases) 0 (length phases)

pub length_retracted : (history : List Parents) (rev : ℕ) (to : Phase) (phases : List Phase) → length (retracted history rev to phases) ≡ length phases
length_retracted history rev to phases = length-map-range_with_len (retracted_at history rev to phases) 0 (length phases)
