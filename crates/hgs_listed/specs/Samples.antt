-- A small repository in which a file is removed.
use Rattle.std.specs.Prelude.{[], ◌∷◌, codes}
use Rattle.hgs_model.specs.Repo.{Repo}
use Rattle.hgs_model.specs.Samples.{commit_on, done, one_line, two_changesets}

-- a file `a` and a file `b`, of which the last changeset lacks `b`
abbrev pub one_removed : Repo
one_removed = done two_changesets (commit_on (codes "tip" ∷ []) (one_line (codes "a") (codes "a") ∷ []) ∷ [])
