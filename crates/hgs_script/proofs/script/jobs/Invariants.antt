use Rattle.std.proofs.Common.{◌≡◌, [], length}
use Rattle.std.specs.Prelude.{replicate}
use Rattle.hgs_script.specs.Read.{jobs_from}
use Rattle.hgs_script.proofs.script.jobs.Given as goal

abbrev pub invariant-loop-workers : goal.invariant-loop-workers
invariant-loop-workers l = jobs_from (length l.input.bytes) l.workers l.input ≡ jobs_from (length l.fn.input.bytes) (replicate l.count []) l.fn.input

abbrev pub decreases-loop-workers : goal.decreases-loop-workers
decreases-loop-workers l = length l.input.bytes
