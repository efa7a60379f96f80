-- Repositories within the limits of the code can be stored.
use Rattle.std.specs.Prelude.{◌≡◌, ◌≤◌, ℕ, List, true, length}
use Rattle.hgs_model.specs.History.{history, uses}
use Rattle.hgs_model.specs.Repo.{Repo}
use Rattle.hgs_revlog.specs.Held.{AreWithinLimits}
use Rattle.hgs_revlog.specs.Load.{most_revisions}
use Rattle.hgs_built.specs.Built.{data_of}

-- each revlog has no more revisions, no longer texts and no more data than the limits allow, and there are no more changesets
pub record IsWithinLimits (r : Repo) : Type 0 where
  pub changesets : length r.changesets ≤ most_revisions
  pub changelog : AreWithinLimits (history r.changesets).changelog (data_of (history r.changesets).changelog)
  pub manifest : AreWithinLimits (history r.changesets).manifest (data_of (history r.changesets).manifest)
  pub filelogs : (path : List ℕ) → uses r.changesets path ≡ true → AreWithinLimits ((history r.changesets).filelog path) (data_of ((history r.changesets).filelog path))
