use Rattle.hgs_load.proofs.BoundLemmas.{refresh-given, opened-form, refreshed-separate}
use Rattle.hgs_load.proofs.laws.refreshes_read_what_is_new.Goals as goal

pub returns : goal.returns
returns c = record { few = refresh-given; opened = opened-form; refreshed = refreshed-separate }
