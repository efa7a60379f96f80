use Rattle.hgs_revlog.proofs.EntriesLemmas.{held-whole}
use Rattle.hgs_revlog.proofs.laws.held_bytes_load.Goals as goal

pub returns : goal.returns
returns c = held-whole
