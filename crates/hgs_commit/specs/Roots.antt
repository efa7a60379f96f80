-- Whether a new changeset is a root of its phase.
use Rattle.std.specs.Prelude.{◌<◌, ℕ, List, IfSome}
use Rattle.hgs_index.specs.declared.entry.Entry.{Entry}
use Rattle.hgs_model.specs.Phase.{greater}
use Rattle.hgs_model.specs.declared.phase.Phase.{Phase}
use Rattle.hgs_phases.specs.Phases.{parent_phase}

-- both parents stand before this revision
abbrev pub AreBefore : ℕ → Entry → Type 0
AreBefore rev e = IfSome e.p1 (λ r. r < rev) × IfSome e.p2 (λ r. r < rev)

-- the greater phase of the parents
abbrev pub inherited : List Phase → Entry → Phase
inherited phases e = greater (parent_phase phases e.p1) (parent_phase phases e.p2)
