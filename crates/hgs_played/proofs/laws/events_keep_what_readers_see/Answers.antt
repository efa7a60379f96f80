use Rattle.hgs_played.proofs.Seeing.{first_see, happens_see}
use Rattle.hgs_played.proofs.laws.events_keep_what_readers_see.Goals as goal

pub returns : goal.returns
returns c = record { first = first_see; keeps = happens_see }
