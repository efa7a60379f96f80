-- The branches of changesets that were committed.
use Rattle.std.specs.Prelude.{ℕ, List, map, take}
use Rattle.hgs_model.specs.History.{changeset_nodes}
use Rattle.hgs_model.specs.Repo.{Changeset, all_parents}
use Rattle.hgs_branch.specs.Extras.{branch_of}
use Rattle.hgs_branch.specs.Taken.{Taken}
use Rattle.hgs_branch.specs.Text.{branches_text}

abbrev pub branches_in : List Changeset → List (List ℕ)
branches_in changesets = map (λ c. branch_of c.extras) changesets

-- what heads of branches stand for, of the first so many changesets
abbrev pub first_taken : ℕ → List Changeset → Taken
first_taken count changesets = record { parents = all_parents (take count changesets); names = branches_in (take count changesets) }

-- the lines of the heads among the first so many
abbrev pub first_branches : ℕ → List Changeset → List ℕ
first_branches count changesets = branches_text (all_parents (take count changesets)) (branches_in (take count changesets)) (changeset_nodes changesets)
