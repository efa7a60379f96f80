use Rattle.std.proofs.Common.{◌++◌, ap}
use Rattle.std.specs.Prelude.{codes}
use Rattle.hgs_path.specs.Theorems.ApartLemmas.{kinds-apart, line-d, store-d}
use Rattle.hgs_path.proofs.laws.filelogs_have_their_own_names.Goals as goal

pub returns-clause-file : goal.returns-clause-file
returns-clause-file c path ext = let d = store-d path ext in (d.0, ap (λ z. codes "store/" ++ z) d.1)

pub returns-clause-listed : goal.returns-clause-listed
returns-clause-listed c = line-d

pub returns-clause-kinds : goal.returns-clause-kinds
returns-clause-kinds c = kinds-apart
