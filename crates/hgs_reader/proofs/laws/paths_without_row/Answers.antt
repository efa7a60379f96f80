use Rattle.hgs_reader.proofs.ViewLemmas.{unknown}
use Rattle.hgs_reader.proofs.laws.paths_without_row.Goals as goal

pub returns : goal.returns
returns c = unknown
