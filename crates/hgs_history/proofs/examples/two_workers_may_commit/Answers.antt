use Rattle.std.proofs.Common.{[], refl}
use Rattle.std.specs.List.{AllByRecursion}
use Rattle.hgs_history.proofs.SampleLemmas.{one-job}
use Rattle.hgs_history.specs.Samples.{two_commits}
use Rattle.hgs_legal.specs.ListsPaths.{ListsOnlyPaths}
use Rattle.hgs_ops.specs.Samples.{bare}
use Rattle.hgs_script.specs.Script.{IsShare}
use Rattle.hgs_history.proofs.examples.two_workers_may_commit.Goals as goal

pub returns : goal.returns
returns c = record { shares = shares; lists = lists; taken = c.sessions_make_legal_logs.ensures.taken two_commits [] bare shares lists }
  where
    shares : AllByRecursion IsShare two_commits
    shares = (record { most = one-job 1 refl; each = ((c.first_commit.ensures.valid, tt), tt) }, (record { most = one-job 1 refl; each = ((c.first_commit.ensures.valid, tt), tt) }, tt))

    lists : ListsOnlyPaths bare
    lists r is = c.new_repositories_list_paths.ensures.empty bare r refl
