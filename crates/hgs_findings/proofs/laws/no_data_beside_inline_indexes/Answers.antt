use Rattle.hgs_findings.proofs.RestLemmas.{no-rest}
use Rattle.hgs_findings.proofs.laws.no_data_beside_inline_indexes.Goals as goal

pub returns : goal.returns
returns c = no-rest
