-- What a writer's limits ask of a repository and of the files that stand for it.
use Rattle.std.specs.Prelude.{◌≤◌, length}
use Rattle.hgs_files.specs.Tree.{Tree, bytes_at}
use Rattle.hgs_index.specs.Either.{chunks_either}
use Rattle.hgs_loading.specs.Small.{most_fncache}
use Rattle.hgs_model.specs.History.{history}
use Rattle.hgs_model.specs.Repo.{Repo}
use Rattle.hgs_load.specs.Open.{most_bookmarks_text, most_dirstate, most_roots}
use Rattle.hgs_revlog.specs.Held.{AreWithinLimits}
use Rattle.hgs_stands.specs.Places.{bookmarks_path, changelog_data, changelog_index, dirstate_path, fncache_path, manifest_data, manifest_index, roots_path}

-- the files that a writer reads before it plans are within the limits
pub record LoadsWithin (t : Tree) (r : Repo) : Type 0 where
  pub bookmarks : length (bytes_at t bookmarks_path) ≤ most_bookmarks_text
  pub dirstate : length (bytes_at t dirstate_path) ≤ most_dirstate
  pub roots : length (bytes_at t roots_path) ≤ most_roots
  pub fncache : length (bytes_at t fncache_path) ≤ most_fncache
  pub changelog : AreWithinLimits (history r.changesets).changelog (chunks_either (bytes_at t changelog_index) (bytes_at t changelog_data))
  pub manifest : AreWithinLimits (history r.changesets).manifest (chunks_either (bytes_at t manifest_index) (bytes_at t manifest_data))
