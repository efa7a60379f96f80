use Rattle.std.proofs.Common.{◌≡◌, ◌+◌, take}
use Rattle.std.specs.Prelude.{fold}
use Rattle.hgs_session.specs.Calls.{one_if_change}
use Rattle.hgs_session.proofs.room.changes_among.Given as goal

abbrev pub invariant-loop-job : goal.invariant-loop-job
invariant-loop-job l = l.count ≡ fold (λ n job. n + one_if_change job) 0 (take l.job-index l.jobs)
