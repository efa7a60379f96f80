use Rattle.std.proofs.Common.{refl}
use Rattle.hgs_writer.proofs.AgreeLemmas.{commit-answers}
use Rattle.hgs_writer.proofs.NextLemmas.{next}
use Rattle.hgs_writer.proofs.commit_laws.commits_agree.Goals as goal

pub returns : goal.returns
returns c = λ t r l n clash s h good.
    commit-answers c.laws_below.ensures c.laws_of_steps.ensures t r l s h (c.loaded_logs_are_the_repositorys.ensures.changelog t r l s h) (c.revisions_are_appended.ensures.changelog t r l s h)
    (c.loaded_logs_are_the_repositorys.ensures.manifest t r l s h) (c.revisions_are_appended.ensures.manifest t r l s h) n good clash
    (λ e named. c.parents_of_commits_are_the_repositorys.ensures.unknown t r l n clash e s h named) (λ revs named. c.parents_of_commits_are_the_repositorys.ensures.known t r l n clash revs s h named)
    (λ parents x below e. c.filelogs_of_commits_grow.ensures.files t r (next r n parents) l n parents x s h good.ordered below refl e)
    (λ parents x z below. c.free_commits_are_ready.ensures t r (next r n parents) l n parents x z s h good.ordered below refl) (c.names_agree.ensures.parents t r l n.parents s h)
