use Rattle.std.proofs.Common.{◌≡◌, [], sym, subst}
use Rattle.hgs_files.specs.Tree.{Tree, bytes_at}
use Rattle.hgs_model.specs.Repo.{Repo, empty_repo}
use Rattle.hgs_stands.specs.Places.{fncache_path}
use Rattle.hgs_legal.specs.ListsPaths.{AreKeptLines, ListsPaths}
use Rattle.hgs_legal.proofs.list_laws.new_repositories_list_paths.Goals as goal

empty : (t : Tree) (r : Repo) → bytes_at t fncache_path ≡ [] → ListsPaths t r
empty t r e = record { lines = subst (AreKeptLines r.changesets) (sym e) tt }

pub returns : goal.returns
returns c = record { empty = empty; new = λ t all. empty t empty_repo all.1.1.1.0 }
