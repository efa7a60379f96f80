use Rattle.std.proofs.Common.{◌≡◌, take, map}
use Rattle.hgs_report.specs.Lists.{lists_unused}
use Rattle.hgs_report.proofs.lists.unused_lists.Given as goal

abbrev pub invariant-loop-changeset : goal.invariant-loop-changeset
invariant-loop-changeset l = l.marks.items ≡ map (lists_unused l.changesets l.trees l.used.keys) (take l.changeset-index l.changesets)
