use Rattle.hgs_follow.specs.Search.{view_copied}
use Rattle.hgs_follow.proofs.WalkLemmas.{Underway}
use Rattle.hgs_follow.proofs.walk.search_all.Given as goal

abbrev pub invariant-loop : goal.invariant-loop
invariant-loop g l = Underway g.F.Filelogs.gives g.F.Filelogs.holds (view_copied l.fn.first) l.fn.files l.files l.logs l.finds
