-- What the files of a play show of the commands that it has published.
use Rattle.std.specs.Prelude.{◌≤◌, ℕ, List, length, take}
use Rattle.hgs_files.specs.Tree.{Tree}
use Rattle.hgs_model.specs.Repo.{Repo, empty_repo}
use Rattle.hgs_model.specs.declared.command.Command.{Command}
use Rattle.hgs_stands.specs.Shows.{Shows}
use Rattle.hgs_world.specs.Follows.{Replays}

-- Replayed from the empty repository on, all these commands lead to the repository whose changesets and phases the tree shows, so many of
-- them to that of its working parents, and so many, no more, to that of its bookmarks.
pub record ShowsCommands (t : Tree) (commands : List Command) : Type 0 where
  pub marks : ℕ
  pub works : ℕ
  pub marks_works : marks ≤ works
  pub works_all : works ≤ length commands
  pub marked : Repo
  pub worked : Repo
  pub last : Repo
  pub bookmarks : Replays empty_repo (take marks commands) marked
  pub parents : Replays empty_repo (take works commands) worked
  pub all : Replays empty_repo commands last
  pub shows : Shows t marked worked last
