use Rattle.std.proofs.Common.{◌≡◌, true, take}
use Rattle.std.specs.List.{list_all}
use Rattle.hgs_report.specs.Lines.{has_key}
use Rattle.hgs_report.proofs.tracked.has_each.Given as goal

abbrev pub invariant-loop-path : goal.invariant-loop-path
invariant-loop-path l = list_all (has_key l.set.keys) (take l.path-index l.paths) ≡ true
