use Rattle.std.proofs.Common.{[], refl}
use Rattle.hgs_writer.proofs.GrownTreeLemmas.{free-of}
use Rattle.hgs_writer.proofs.ReadyLemmas.{ready}
use Rattle.hgs_writer.proofs.commit_laws.free_commits_are_ready.Goals as goal

pub returns : goal.returns
returns c = λ t r next l n parents x y s h ordered below with_it copies separate e read unclashed new few kept named.
    let changelog = c.loaded_logs_are_the_repositorys.ensures.changelog t r l s h in
    let manifest = c.loaded_logs_are_the_repositorys.ensures.manifest t r l s h in
    let tree = c.trees_are_the_repositorys.ensures t r l n parents (x, []) s h ordered below.first below.second e in
    ready c.laws_below.ensures t r next l s h separate (c.laws_of_steps.ensures.form t l h) changelog manifest n parents ordered with_it copies x
    (free-of c.laws_below.ensures t r l s h changelog manifest n parents x ordered below.first below.second e)
    (y, []) refl (c.texts_of_commits_are_the_repositorys.ensures t r l n parents x.0 x.1 (y, []) s h tree read) unclashed new few kept named (record { used = c.listed_paths_need_no_test.ensures.used; listed = c.listed_paths_need_no_test.ensures.listed })
