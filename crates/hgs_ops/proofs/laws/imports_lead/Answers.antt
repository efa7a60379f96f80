use Rattle.hgs_ops.specs.Theorems.CommitLemmas.{import-leads}
use Rattle.hgs_ops.proofs.laws.imports_lead.Goals as goal

pub returns : goal.returns
returns c = import-leads
