use Rattle.std.proofs.Common.{refl}
use Rattle.hgs_machine.proofs.Carrying.{source-stands}
use Rattle.hgs_files.specs.Tree.{after_all}
use Rattle.hgs_machine.proofs.laws.sources_stand.Goals as goal

pub returns : goal.returns
returns c = λ t m log op h e. source-stands (after_all log t) m op e (record { from = t; log = log; is_now = refl; so_far = h })
