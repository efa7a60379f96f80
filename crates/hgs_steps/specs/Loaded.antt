-- What a writer has loaded.
use Rattle.std.specs.Prelude.{◌||◌, ℕ, List, Bool, slice_index_or}
use Rattle.hgs_index.specs.Node.{null_node}
use Rattle.hgs_model.specs.declared.phase.Phase.TheVariants.{Public}
use Rattle.hgs_model.specs.Phase.{phase_number}
use Rattle.hgs_load.specs.Marks.{working_of}
use Rattle.hgs_load.specs.View.{View}
use Rattle.hgs_revlog.specs.Log.{nodes_of}
use Rattle.hgs_steps.specs.declared.loaded.Loaded.{Loaded}

-- what a reader would hold of the same files
abbrev pub view_of : Loaded → View
view_of l = record { changelog = l.changelog; bookmarks = l.bookmarks; working = working_of l.working; phases = l.phases }

-- the node of a changeset
abbrev pub node_at : Loaded → ℕ → List ℕ
node_at l rev = slice_index_or (nodes_of l.changelog.entries) rev null_node

-- the number of a changeset's phase
abbrev pub phase_at : Loaded → ℕ → ℕ
phase_at l rev = phase_number (slice_index_or l.phases rev Public)

-- the changelog or the manifest is inline, and neither is appended to then
abbrev pub has_inline : Loaded → Bool
has_inline l = l.changelog.inline || l.manifest.inline
