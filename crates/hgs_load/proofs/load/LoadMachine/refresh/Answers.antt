use Rattle.std.proofs.Common.{◌∙◌, ap, true, None}
use Rattle.hgs_load.specs.Load.{asks_from}
use Rattle.hgs_load.specs.Refresh.{newer_log_asks}
use Rattle.hgs_load.proofs.load.LoadMachine.refresh.Goals as goal

pub returns : goal.returns
returns c = record {
  asks = ap (λ index. asks_from true None None index) (c.in_ok-behind.ensures ∙ ap newer_log_asks c.changelog.ensures);
}
