use Rattle.hgs_top.proofs.ValidLemmas.{command-valid}
use Rattle.hgs_top.proofs.laws.commands_are_valid.Goals as goal

pub returns : goal.returns
returns c = command-valid (record {
  records = λ bytes change e. (c.read_records_are_records.ensures bytes change e).valid;
  imports = λ bytes changes e. (c.read_imports_are_imports.ensures bytes changes e).1;
})
