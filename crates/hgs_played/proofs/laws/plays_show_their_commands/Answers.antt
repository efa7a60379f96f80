use Rattle.std.proofs.Common.{[], subst, sym}
use Rattle.hgs_played.specs.Loads.{ReadersSee}
use Rattle.hgs_played.proofs.Playing.{plays_keep}
use Rattle.hgs_played.proofs.laws.plays_show_their_commands.Goals as goal

pub returns : goal.returns
returns c = λ readers events first last text can is_first plays.
    let logs = c.events_keep_their_log.ensures in
    let begun = logs.first readers first is_first in
    let sees = c.events_keep_what_readers_see.ensures in
    let now = plays_keep c.events_keep_their_commands.ensures.keeps logs.keeps sees.keeps readers events first last text begun.0 [] can (c.events_keep_their_commands.ensures.first readers first is_first) begun.1 (sees.first readers first begun.0 [] is_first) plays in
    let p = logs.played last now.0 now.1 now.2 in
    (now.0, p.0, now.2.begins, p.2, subst (ReadersSee last now.0) (sym p.1) now.3, c.logs_show_their_commands.ensures last now.0 now.1 now.2)
