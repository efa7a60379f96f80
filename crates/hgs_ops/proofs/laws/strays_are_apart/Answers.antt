use Rattle.std.proofs.Common.{refl}
use Rattle.hgs_ops.proofs.BeginsLemmas.{loose-shows}
use Rattle.hgs_ops.proofs.laws.strays_are_apart.Goals as goal

pub returns : goal.returns
returns c = record { own = refl; strays = refl; shown = loose-shows }
