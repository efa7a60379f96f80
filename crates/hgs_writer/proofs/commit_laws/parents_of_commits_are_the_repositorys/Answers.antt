use Rattle.std.specs.Prelude.{Ok, Err}
use Rattle.hgs_writer.proofs.NameLemmas.{commit-by, parents-below, step-unknown}
use Rattle.hgs_writer.proofs.commit_laws.parents_of_commits_are_the_repositorys.Goals as goal

pub returns-clause-unknown : goal.returns-clause-unknown
returns-clause-unknown c = λ t r l n clash e s h named. (commit-by t r l n clash (Err e) (c.names_agree.ensures.parents t r l n.parents s h) named, step-unknown r n e named)

pub returns-clause-known : goal.returns-clause-known
returns-clause-known c = λ t r l n clash revs s h named. (commit-by t r l n clash (Ok revs) (c.names_agree.ensures.parents t r l n.parents s h) named, parents-below r n.parents revs s.repository named)
