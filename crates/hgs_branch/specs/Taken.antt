-- The first changesets of a history, as branch heads ask for them.
use Rattle.std.specs.Prelude.{ℕ, List, ◌++◌, map}
use Rattle.hgs_index.specs.Revision.{Parents}
use Rattle.hgs_branch.specs.declared.changeset.OnBranch.{OnBranch}

-- the parents and the branch of each
pub record Taken : Type 0 where
  pub parents : List Parents
  pub names : List (List ℕ)

abbrev pub parents_of : OnBranch → Parents
parents_of change = (change.p1, change.p2)

-- the same and those of the next ones
abbrev pub with_changes : Taken → List OnBranch → Taken
with_changes taken changes = record { parents = taken.parents ++ map parents_of changes; names = taken.names ++ map (λ c. c.branch) changes }
