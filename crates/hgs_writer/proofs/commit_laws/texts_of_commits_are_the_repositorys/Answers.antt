use Rattle.hgs_writer.proofs.WholeTextLemmas.{texts-are}
use Rattle.hgs_writer.proofs.commit_laws.texts_of_commits_are_the_repositorys.Goals as goal

pub returns : goal.returns
returns c = λ t r l n parents x manifests y s h is e.
    texts-are t r l s (c.loaded_logs_are_the_repositorys.ensures.changelog t r l s h) (c.loaded_logs_are_the_repositorys.ensures.manifest t r l s h) n parents x manifests is y e
