use Rattle.hgs_writer.proofs.TestedLemmas.{tested-is}
use Rattle.hgs_writer.proofs.commit_laws.unchanged_trees_are_refused.Goals as goal

pub returns : goal.returns
returns c = λ t r l n parents y s h ordered below e.
    tested-is r n parents.0 parents.1 y.0.0 s.repository below ordered (c.trees_are_the_repositorys.ensures t r l n parents y s h ordered below.first below.second e).changed
