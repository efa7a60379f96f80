use Rattle.hgs_world.proofs.HappenLemmas.{first_keeps, follows_of, plays_keep}
use Rattle.hgs_world.proofs.laws.plays_follow_their_commands.Goals as goal

pub returns : goal.returns
returns c = λ readers events first last text can is_first plays.
    let l = c.laws_below.ensures in
    follows_of l last (plays_keep l readers events first last text can (first_keeps l readers first is_first) plays)
