use Rattle.hgs_input.proofs.RecordFound.{record_found}
use Rattle.hgs_input.proofs.laws.read_records_are_records.Goals as goal

pub returns : goal.returns
returns c = record_found
