use Rattle.hgs_writer.proofs.ParentLemmas.{parent-files}
use Rattle.hgs_writer.proofs.commit_laws.files_of_parents_are_the_repositorys.Goals as goal

pub returns : goal.returns
returns c = λ t r l o files s h low e.
    parent-files t r l o files s (c.loaded_logs_are_the_repositorys.ensures.changelog t r l s h) (c.loaded_logs_are_the_repositorys.ensures.manifest t r l s h) low e
