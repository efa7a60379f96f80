use Rattle.hgs_model.specs.History.{file_parents, history}
use Rattle.hgs_model.specs.Theorems.CountLemmas.{file-revision-below, sound}
use Rattle.hgs_writer.proofs.FileLemmas.{kept-is, parents-of, told-of}
use Rattle.hgs_writer.proofs.commit_laws.file_parents_are_the_repositorys.Goals as goal

pub returns-clause-rows : goal.returns-clause-rows
returns-clause-rows c = told-of

pub returns-clause-parents : goal.returns-clause-parents
returns-clause-parents c = λ t r f parents path s is. parents-of t (history r.changesets) f parents path (sound r s.repository) is

pub returns-clause-kept : goal.returns-clause-kept
returns-clause-kept c = λ t r f parents path body s is.
    kept-is t f ((history r.changesets).filelog path) (file_parents (history r.changesets) parents path).0 (file_parents (history r.changesets) parents path).1 body is (file-revision-below (history r.changesets) parents path (sound r s.repository)).first
