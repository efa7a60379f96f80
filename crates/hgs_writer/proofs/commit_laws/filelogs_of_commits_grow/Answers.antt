use Rattle.hgs_stands.specs.Places.{fncache_path}
use Rattle.hgs_writer.proofs.GrownTreeLemmas.{files-grow, free-of}
use Rattle.hgs_writer.proofs.GrowthLemmas.{appends-some}
use Rattle.hgs_writer.proofs.commit_laws.filelogs_of_commits_grow.Goals as goal

pub returns-clause-files : goal.returns-clause-files
returns-clause-files c = λ t r next l n parents x s h ordered below with_it e.
    files-grow t r next l n parents x
    (free-of c.laws_below.ensures t r l s h (c.loaded_logs_are_the_repositorys.ensures.changelog t r l s h) (c.loaded_logs_are_the_repositorys.ensures.manifest t r l s h) n parents x ordered below.first below.second e) ordered with_it

pub returns-clause-list : goal.returns-clause-list
returns-clause-list c = λ t l lines h. appends-some t fncache_path l.fncache_length lines h.fncache_length
