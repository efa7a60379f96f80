use Rattle.hgs_world.proofs.HappenLemmas.{first_keeps, follows_of, happens_keep}
use Rattle.hgs_world.proofs.laws.events_keep_their_commands.Goals as goal

pub returns : goal.returns
returns c =
    let l = c.laws_below.ensures in
    record { first = first_keeps l; keeps = happens_keep l; follows = follows_of l }
