use Rattle.hgs_input.proofs.RecordBack.{record_back}
use Rattle.hgs_input.proofs.laws.record_written_then_read.Goals as goal

pub returns : goal.returns
returns c = record_back
