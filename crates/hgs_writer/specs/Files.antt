-- The files of a changeset's tree, as a repository's history has them.
use Rattle.std.specs.Prelude.{ℕ, List, map, Option, option_map}
use Rattle.hgs_loading.specs.Parent.{Files}
use Rattle.hgs_model.specs.History.{History, manifest_at, node_at, placed_at, placed_file, row_of}
use Rattle.hgs_commit.specs.Walk.{Told}

-- the revision of its manifest and its rows, none where there is no changeset
abbrev pub files_at : History → Option ℕ → Files
files_at h o = (manifest_at h o, map (row_of h.filelog) (placed_at h o))

-- what the rows say of a path
abbrev pub told_at : History → Option ℕ → List ℕ → Option Told
told_at h o path = option_map (λ p. (node_at (h.filelog p.path) p.rev, p.flag)) (placed_file (placed_at h o) path)
