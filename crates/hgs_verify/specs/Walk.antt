-- What many paths add to the findings of a tree.
use Rattle.std.specs.Prelude.{◌≡◌, ◌<◌, ◌||◌, ℕ, List, [], ◌∷◌, Bool, false, length, slice_index_or}
use Rattle.hgs_files.specs.Tree.{Tree}
use Rattle.hgs_findings.specs.Findings.{Finding}
use Rattle.hgs_verify.specs.Added.{AddsPath}

-- the marks, with those at their places among the others
pub record AreMarked (marks more marked : List Bool) : Type 0 where
  pub count : length marked ≡ length marks
  pub each : (k : ℕ) → k < length marks → slice_index_or marked k false ≡ (slice_index_or marks k false || slice_index_or more k false)

-- one path after another adds what is found of it, and marks the changesets whose lists are wrong there
abbrev pub AddPaths : List (List ℕ) → List Finding → List Finding → List Bool → List Bool → Tree → Type 0
AddPaths [] old new marks marked t = (old ≡ new) × (marks ≡ marked)
AddPaths (path ∷ paths) old new marks marked t = (next : List Finding) × (wrong : List Bool) × (mid : List Bool) × AddsPath path old next wrong t × AreMarked marks wrong mid × AddPaths paths next new mid marked t
