use Rattle.hgs_writer.proofs.TreeLemmas.{grown-of}
use Rattle.hgs_writer.proofs.commit_laws.trees_are_the_repositorys.Goals as goal

pub returns : goal.returns
returns c = λ t r l n parents y s h ordered low_first low_second e.
    grown-of c.laws_below.ensures t r l s h (c.loaded_logs_are_the_repositorys.ensures.changelog t r l s h) (c.loaded_logs_are_the_repositorys.ensures.manifest t r l s h) n parents y ordered low_first low_second e
