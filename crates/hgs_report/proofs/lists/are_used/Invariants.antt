use Rattle.std.proofs.Common.{◌≡◌, true, take}
use Rattle.std.specs.List.{list_all}
use Rattle.hgs_report.specs.Lists.{has_path}
use Rattle.hgs_report.proofs.lists.are_used.Given as goal

abbrev pub invariant-loop-path : goal.invariant-loop-path
invariant-loop-path l = list_all (has_path l.used.keys) (take l.path-index l.files) ≡ true
