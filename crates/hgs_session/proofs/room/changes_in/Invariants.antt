use Rattle.std.proofs.Common.{◌≡◌, ◌+◌, take}
use Rattle.std.specs.Prelude.{fold}
use Rattle.hgs_session.specs.Session.{changes_among}
use Rattle.hgs_session.proofs.room.changes_in.Given as goal

abbrev pub invariant-loop-jobs : goal.invariant-loop-jobs
invariant-loop-jobs l = l.count ≡ fold (λ n jobs. n + changes_among jobs) 0 (take l.jobs-index l.workers)
