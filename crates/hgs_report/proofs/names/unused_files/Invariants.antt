use Rattle.std.proofs.Common.{◌≡◌, take}
use Rattle.hgs_report.specs.Names.{unused_files}
use Rattle.hgs_report.proofs.names.unused_files.Given as goal

abbrev pub invariant-loop-name : goal.invariant-loop-name
invariant-loop-name l = l.files.items ≡ unused_files l.used.keys (take l.name-index l.names)
