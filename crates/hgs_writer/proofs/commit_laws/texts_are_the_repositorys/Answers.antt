use Rattle.hgs_writer.proofs.NewTextLemmas.{text-of}
use Rattle.hgs_writer.proofs.commit_laws.texts_are_the_repositorys.Goals as goal

pub returns : goal.returns
returns c = text-of
