use Rattle.hgs_writer.proofs.LayingLemmas.{parts-lay}
use Rattle.hgs_writer.proofs.import_laws.parts_of_commits_are_laid.Goals as goal

pub returns : goal.returns
returns c = λ t r next n p are. parts-lay t r next n p are
