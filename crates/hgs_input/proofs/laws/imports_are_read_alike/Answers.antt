use Rattle.hgs_input.proofs.ImportFronts.{import_alike}
use Rattle.hgs_input.proofs.laws.imports_are_read_alike.Goals as goal

pub returns : goal.returns
returns c = import_alike
