use Rattle.std.proofs.Common.{◌≡◌, ◌+◌, ◌*◌, length}
use Rattle.hgs_follow.specs.Search.{unmarked}
use Rattle.hgs_follow.proofs.SearchLemmas.{Keeps}
use Rattle.hgs_follow.proofs.search.search_file.Given as goal

abbrev pub invariant-loop-rev : goal.invariant-loop-rev
invariant-loop-rev g l = record {
  filelog : l.reached.filelog ≡ l.fn.reached.filelog;
  found : Keeps g.F.Filelogs.gives l.fn.path l.fn.reached.filelog.log.entries l.fn.from l.fn.files l.files l.fn.reached.marks.items l.reached.marks.items l.waiting.items l.fn.finds l.finds;
}

abbrev pub decreases-loop-rev : goal.decreases-loop-rev
decreases-loop-rev g l = 2 * unmarked l.reached.marks.items + length l.waiting.items
