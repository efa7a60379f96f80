use Rattle.std.proofs.Common.{ap, false, None}
use Rattle.hgs_load.specs.Load.{asks_from}
use Rattle.hgs_load.proofs.load.LoadMachine.open.Goals as goal

pub returns : goal.returns
returns c = record {
  asks = ap (λ index. asks_from false None None index) c.new-3.ensures;
}
