-- Phases that a command moves.
use Rattle.std.specs.Prelude.{ℕ, Bool, true, false, List, length, Option, Some, None, if◌then◌else◌, map, slice_index_or, slice_set}
use Rattle.std.specs.List.{range_with_len}
use Rattle.hgs_index.specs.Ancestor.{is_ancestor}
use Rattle.hgs_index.specs.Revision.{Parents}
use Rattle.hgs_model.specs.declared.phase.Phase.{Phase}
use Rattle.hgs_model.specs.declared.phase.Phase.TheVariants.{Public}
use Rattle.hgs_model.specs.Phase.{greater, lesser}

-- the phase of a changeset after another and its descendants were raised to at least this phase
abbrev pub retracted_at : List Parents → ℕ → Phase → List Phase → ℕ → Phase
retracted_at history rev to phases other = if is_ancestor history rev other then greater (slice_index_or phases other Public) to else slice_index_or phases other Public

-- the phases after a changeset and its descendants were raised to at least this phase
abbrev pub retracted : List Parents → ℕ → Phase → List Phase → List Phase
retracted history rev to phases = map (retracted_at history rev to phases) (range_with_len 0 (length phases))

-- the phase of a changeset after another and its ancestors were lowered to at most this phase
abbrev pub advanced_at : List Parents → ℕ → Phase → List Phase → ℕ → Phase
advanced_at history rev to phases other = if is_ancestor history other rev then lesser (slice_index_or phases other Public) to else slice_index_or phases other Public

-- the phases after a changeset and its ancestors were lowered to at most this phase
abbrev pub advanced : List Parents → ℕ → Phase → List Phase → List Phase
advanced history rev to phases = map (advanced_at history rev to phases) (range_with_len 0 (length phases))

-- whether a parent is marked
abbrev pub is_marked : List Bool → Option ℕ → Bool
is_marked marks None = false
is_marked marks (Some rev) = slice_index_or marks rev false

-- the marks with that of a parent, where there is one
abbrev pub marked : List Bool → Option ℕ → List Bool
marked marks None = marks
marked marks (Some rev) = slice_set marks rev true

-- the phases with that of one changeset lowered to a phase, if it is above
abbrev pub lowered : List Phase → ℕ → Phase → List Phase
lowered phases rev phase = slice_set phases rev (lesser (slice_index_or phases rev Public) phase)
