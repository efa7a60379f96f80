use Rattle.hgs_input.proofs.RecordBack.{record_front_back}
use Rattle.hgs_input.proofs.RecordFound.{record_before}
use Rattle.hgs_input.proofs.laws.records_stand_in_front.Goals as goal

pub returns-clause-read : goal.returns-clause-read
returns-clause-read c = record_front_back

pub returns-clause-is : goal.returns-clause-is
returns-clause-is c r rest d e = record_before r (d, rest) e
