use Rattle.std.proofs.Common.{subst}
use Rattle.hgs_files.specs.Tree.{Tree}
use Rattle.hgs_played.specs.Shown.{ShowsCommands}
use Rattle.hgs_played.proofs.Showing.{shows_commands, tree_now}
use Rattle.hgs_played.proofs.laws.logs_show_their_commands.Goals as goal

pub returns : goal.returns
returns c = λ s b log k.
    let p = c.events_keep_their_log.ensures.played s b log k in
    subst (λ (t : Tree). ShowsCommands t s.book.published) (tree_now s b p.0 p.2)
    (shows_commands c.numbers_rise.ensures.order s.start b p.0 s.book.published k.begins p.2.first p.2.published (c.logs_show.ensures p.0.start p.0.first p.0.log p.0.last p.0.stands p.0.run))
