use Rattle.std.proofs.Common.{◌≡◌, take, map}
use Rattle.hgs_judge.specs.Read.{revisions_in}
use Rattle.hgs_judge.specs.Trees.{rows_read}
use Rattle.hgs_judge.proofs.trees.read_trees.Given as goal

abbrev pub invariant-loop-rev : goal.invariant-loop-rev
invariant-loop-rev l = l.trees.items ≡ map rows_read (take l.rev (revisions_in l.manifest.log.entries l.data_bytes))
