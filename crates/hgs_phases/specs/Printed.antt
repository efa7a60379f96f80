-- The roots that are written of phases.
use Rattle.std.specs.Prelude.{◌==◌, ◌&&◌, ◌+◌, ℕ, Bool, nat_lt, List, [], ◌∷◌, ◌++◌, if◌then◌else◌, slice_index_or}
use Rattle.hgs_index.specs.declared.entry.Entry.{Entry}
use Rattle.hgs_model.specs.declared.phase.Phase.{Phase}
use Rattle.hgs_model.specs.declared.phase.Phase.TheVariants.{Public, Draft, Secret}
use Rattle.hgs_phases.specs.declared.roots.Root.{Root}
use Rattle.hgs_model.specs.Phase.{phase_number, greater}
use Rattle.hgs_phases.specs.Phases.{parent_phase}

-- whether a changeset has this phase, and it is greater than each parent's
abbrev pub is_root : Phase → List Phase → ℕ → Entry → Bool
is_root phase phases rev e =
    (phase_number (slice_index_or phases rev Public) == phase_number phase) && nat_lt (phase_number (greater (parent_phase phases e.p1) (parent_phase phases e.p2))) (phase_number phase)

-- the changeset as a root of the phase, if it is one
abbrev pub root_at : Phase → List Phase → ℕ → Entry → List Root
root_at phase phases rev e = if is_root phase phases rev e then record { phase = phase; node = e.node } ∷ [] else []

-- the roots of a phase among changesets, the first having this revision
abbrev pub roots_in : Phase → List Phase → ℕ → List Entry → List Root
roots_in phase phases rev [] = []
roots_in phase phases rev (e ∷ entries) = root_at phase phases rev e ++ roots_in phase phases (rev + 1) entries

-- the roots of phases: first those of drafts, then those of secrets, each by ascending revision
abbrev pub written_roots : List Phase → List Entry → List Root
written_roots phases entries = roots_in Draft phases 0 entries ++ roots_in Secret phases 0 entries
