use Rattle.hgs_power_loss.proofs.LawLemmas.{told-loss}
use Rattle.hgs_power_loss.proofs.laws.told_losses_are_losses.Goals as goal

pub returns : goal.returns
returns c = told-loss
