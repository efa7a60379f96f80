use Rattle.std.proofs.Common.{◌≡◌, ℕ, List, take}
use Rattle.hgs_bytes.specs.Bytes.{among}
use Rattle.hgs_report.specs.Lines.{has_key}
use Rattle.hgs_report.proofs.sets.set_of.Given as goal

abbrev pub invariant-loop-name : goal.invariant-loop-name
invariant-loop-name l = (path : List ℕ) → has_key l.set.keys path ≡ among path (take l.name-index l.names)
