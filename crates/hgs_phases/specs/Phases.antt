-- The phases that roots give to changesets.
use Rattle.std.specs.Prelude.{◌≡◌, ◌==◌, ◌<◌, ℕ, Bool, false, List, [], ◌∷◌, length, Option, Some, None, if◌then◌else◌, map, slice_index_or, slice_set}
use Rattle.std.specs.List.{range_with_len}
use Rattle.hgs_index.specs.Ancestor.{is_ancestor}
use Rattle.hgs_index.specs.Revision.{Parents}
use Rattle.hgs_index.specs.declared.entry.Entry.{Entry}
use Rattle.hgs_revlog.specs.Log.{place_of}
use Rattle.hgs_model.specs.declared.phase.Phase.{Phase}
use Rattle.hgs_model.specs.declared.phase.Phase.TheVariants.{Public}
use Rattle.hgs_phases.specs.declared.roots.Root.{Root}
use Rattle.hgs_model.specs.Phase.{greater}

-- the parents of each changeset
abbrev pub history_of : List Entry → List Parents
history_of entries = map (λ e. (e.p1, e.p2)) entries

-- whether what stands at a place is an ancestor of a changeset, or itself; where it is unknown it is none
abbrev pub reaches : List Parents → Option ℕ → ℕ → Bool
reaches history None rev = false
reaches history (Some root) rev = is_ancestor history root rev

-- the phase of a changeset: the greatest of a root among itself and its ancestors, public where there is none
abbrev pub phase_by : List Root → List Entry → ℕ → Phase
phase_by [] entries rev = Public
phase_by (r ∷ roots) entries rev =
    greater (if reaches (history_of entries) (place_of entries r.node.0) rev then r.phase else Public) (phase_by roots entries rev)

-- the phases of all changesets
abbrev pub phases_by : List Root → List Entry → List Phase
phases_by roots entries = map (phase_by roots entries) (range_with_len 0 (length entries))

-- the phase of a parent, public where there is none
abbrev pub parent_phase : List Phase → Option ℕ → Phase
parent_phase phases None = Public
parent_phase phases (Some rev) = slice_index_or phases rev Public

-- ---- the same from parents to children

-- whether a root stands at this changeset itself
abbrev pub stands_at : Option ℕ → ℕ → Bool
stands_at None rev = false
stands_at (Some root) rev = root == rev

-- the greatest phase of a root that stands at a changeset itself, public where there is none
abbrev pub own_phase : List Root → List Entry → ℕ → Phase
own_phase [] entries rev = Public
own_phase (r ∷ roots) entries rev = greater (if stands_at (place_of entries r.node.0) rev then r.phase else Public) (own_phase roots entries rev)

-- each changeset has the phase that its own roots give
pub record AreOwn (roots : List Root) (entries : List Entry) (phases : List Phase) : Type 0 where
  pub count : length phases ≡ length entries
  pub each : (rev : ℕ) → rev < length entries → slice_index_or phases rev Public ≡ own_phase roots entries rev

-- the phases of so many changesets in front are public
abbrev pub AreFrontPublic : ℕ → List Phase → Type 0
AreFrontPublic n phases = (rev : ℕ) → rev < n → slice_index_or phases rev Public ≡ Public

-- the phases with that of one changeset raised to a phase, if it is below
abbrev pub raised : List Phase → ℕ → Phase → List Phase
raised phases rev phase = slice_set phases rev (greater (slice_index_or phases rev Public) phase)

-- the same where a root stands, if it is known
abbrev pub raised_root : List Phase → Option ℕ → Phase → List Phase
raised_root phases None phase = phases
raised_root phases (Some rev) phase = raised phases rev phase
