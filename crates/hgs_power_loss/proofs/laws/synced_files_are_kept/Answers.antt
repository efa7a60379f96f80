use Rattle.hgs_power_loss.proofs.LawLemmas.{synced-kept}
use Rattle.hgs_power_loss.proofs.laws.synced_files_are_kept.Goals as goal

pub returns : goal.returns
returns c = synced-kept
