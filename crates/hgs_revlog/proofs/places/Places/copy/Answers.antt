use Rattle.std.proofs.Common.{length, take}
use Rattle.std.specs.Option.{option_or}
use Rattle.hgs_revlog.specs.Log.{place_of}
use Rattle.hgs_revlog.proofs.places.Places.copy.Goals as goal

pub returns-clause-places : goal.returns-clause-places
returns-clause-places c entries node =
    λ i. option_or (place_of (take (length (c.in_ok-copy.ensures.links i)) entries) node) (c.in_ok-copy_of.ensures node i)
