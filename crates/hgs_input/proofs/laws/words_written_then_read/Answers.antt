use Rattle.hgs_input.proofs.RecordBack.{count_back, decimal_lacks, name_lacks}
use Rattle.hgs_input.proofs.laws.words_written_then_read.Goals as goal

pub returns-clause-numbers : goal.returns-clause-numbers
returns-clause-numbers c = count_back

pub returns-clause-digits : goal.returns-clause-digits
returns-clause-digits c = decimal_lacks

pub returns-clause-names : goal.returns-clause-names
returns-clause-names c = name_lacks
