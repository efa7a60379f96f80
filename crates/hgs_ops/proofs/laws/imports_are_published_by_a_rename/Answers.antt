use Rattle.std.proofs.Common.{refl}
use Rattle.hgs_ops.specs.Theorems.ImportTree.{import-lines}
use Rattle.hgs_ops.proofs.TransactionLemmas.{import-made}
use Rattle.hgs_ops.proofs.laws.imports_are_published_by_a_rename.Goals as goal

pub returns : goal.returns
returns c = record {
  publish = λ t r next changes who. refl;
  made = λ t r next changes who u. import-made t r next u;
  journal = λ t r next changes n. refl;
  line = λ t r next changes. import-lines t r next changes;
}
