use Rattle.std.proofs.Common.{◌≡◌, ◌++◌, drop}
use Rattle.std.specs.Prelude.{flat_map}
use Rattle.hgs_script.specs.Result.{published_line}
use Rattle.hgs_script.proofs.result.push_all_published.Given as goal

abbrev pub invariant-loop-entry : goal.invariant-loop-entry
invariant-loop-entry l = l.into.items ++ flat_map published_line (drop l.entry-index l.entries) ≡ l.fn.into.items ++ flat_map published_line l.entries
