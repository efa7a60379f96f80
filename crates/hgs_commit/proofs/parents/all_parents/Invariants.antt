use Rattle.std.proofs.Common.{◌≡◌, ◌++◌, drop}
use Rattle.hgs_revlog.specs.Loaded.{parents_in}
use Rattle.hgs_commit.proofs.parents.all_parents.Given as goal

abbrev pub invariant-loop-rev : goal.invariant-loop-rev
invariant-loop-rev l = l.parents.items ++ parents_in (drop l.rev l.log.entries) ≡ parents_in l.log.entries
