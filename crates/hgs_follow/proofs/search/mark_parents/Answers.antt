use Rattle.hgs_follow.proofs.SearchLemmas.{marks_both}
use Rattle.hgs_follow.proofs.search.mark_parents.Goals as goal

pub returns : goal.returns
returns c = marks_both c.args.filelog.now.log.entries c.entry-entry.result.now c.args.rev _ _ _ _ _ _ c.entry-entry.ensures c.in_ok-mark.ensures c.in_ok-mark-2.ensures
