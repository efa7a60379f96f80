-- What holds of a changelog, and of the phases of its changesets.
use Rattle.std.specs.Prelude.{◌≡◌, ◌≤◌, ℕ, List, length, Some, slice_get, slice_index_or}
use Rattle.hgs_index.specs.Revision.{ParentsBefore}
use Rattle.hgs_index.specs.declared.entry.Entry.{Entry}
pub use Rattle.hgs_revlog.specs.Loaded.{HaveNodes, HaveOwnNodes}
use Rattle.hgs_model.specs.declared.phase.Phase.{Phase}
use Rattle.hgs_model.specs.declared.phase.Phase.TheVariants.{Public}
use Rattle.hgs_model.specs.Phase.{phase_number, greater}
use Rattle.hgs_phases.specs.Phases.{history_of, parent_phase}

-- parents stand before their children, and no node stands twice
pub record IsChangelog (entries : List Entry) : Type 0 where
  pub earlier : ParentsBefore 0 (history_of entries)
  pub own : HaveOwnNodes entries

-- a phase for each changeset, none below that of a parent
pub record ArePhases (entries : List Entry) (phases : List Phase) : Type 0 where
  pub count : length phases ≡ length entries
  pub each : (rev : ℕ) (e : Entry) → slice_get entries rev ≡ Some e → phase_number (greater (parent_phase phases e.p1) (parent_phase phases e.p2)) ≤ phase_number (slice_index_or phases rev Public)
